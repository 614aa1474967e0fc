use Rattle.std.proofs.Common.{◌<◌, length, ap, arith, sym, ◌∙◌}
use Rattle.std.proofs.lemmas.Bool.{both_ways}
use Rattle.std.proofs.lemmas.Option.{slice_get-get_or}
use Rattle.smol_meaning.specs.Plates.{effect_of}
use Rattle.smol_meaning.specs.Seen.{plates_of}
use Rattle.smol_travel.specs.declared.decision.Best.{Best}
use Rattle.smol_travel.specs.Legs.{meets}
use Rattle.smol_travel.specs.Looked.{nowhere, plate_at}
use Rattle.smol_travel.proofs.Deciding.{best_met, best_same}
use Rattle.smol_travel.proofs.Looking.{count_is, stands_at}
use Rattle.smol_travel.proofs.decision.better.Goals as goal

pub returns-then-not-is_met : goal.returns-then-not-is_met
returns-then-not-is_met c = λ bound left old.
    let draft = c.args.panels.now in
    let leg = c.args.leg.now in
    let m = c.args.moment.now in
    let here = stands_at draft c.sheets-sheets.result.now c.args.number _ c.sheets-sheets.ensures.value (omega (arith, c.requires.number, c.sheets-sheets.ensures.count)) in
    best_same draft leg m c.args.species bound c.args.number left c.args.best old
    (λ met. both_ways c.is_met.result c.if-not-is_met.true (c.is_met.ensures ∙ ap (meets leg m) here ∙ met))

pub returns : goal.returns
returns c = λ bound left old.
    let draft = c.args.panels.now in
    let leg = c.args.leg.now in
    let m = c.args.moment.now in
    let plate = plate_at draft c.args.number in
    let within : c.args.number < length (plates_of draft) = omega (arith, c.requires.number, c.sheets-sheets.ensures.count, ap length c.sheets-sheets.ensures.value, count_is draft) in
    let here = stands_at draft c.sheets-sheets.result.now c.args.number _ c.sheets-sheets.ensures.value (omega (arith, c.requires.number, c.sheets-sheets.ensures.count)) in
    let is = c.effect-effect.ensures.value plate (slice_get-get_or (plates_of draft) c.args.number nowhere within)
    ∙ ap (λ up. effect_of plate up c.args.species) c.goes_up.ensures in
    let own : Best = record { number = c.args.number; effect = c.effect-effect.result } in
    best_met draft leg m c.args.species bound c.args.number left c.args.best old c.first_of.result own within
    (sym (c.is_met.ensures ∙ ap (meets leg m) here) ∙ c.if-not-is_met.false)
    (λ i. record { number = c.args.number; effect = is i }) c.effect-effect.ensures.known
    c.first_of.ensures.one c.first_of.ensures.other c.first_of.ensures.either
