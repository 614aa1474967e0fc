use Rattle.std.proofs.Common.{◌≡◌, Some, slice_get, ◌∙◌, ap, sym, subst}
use Rattle.smol_types.specs.declared.draft.Draft.{Draft}
use Rattle.smol_meaning.specs.Plates.{Plate, effect_of}
use Rattle.smol_meaning.specs.Seen.{plates_of}
use Rattle.smol_sheets.proofs.Numbered.{plate_of_panel, plate_of_wall}
use Rattle.smol_sheets.proofs.panels.Panels.effect.Goals as goal

pub returns-then-place-panels-clause-value : goal.returns-then-place-panels-clause-value
returns-then-place-panels-clause-value c = λ plate there.
    let stands = subst (λ (draft : Draft). slice_get (plates_of draft) c.args.number ≡ Some plate) (sym c.config-config.ensures.value) there in
    c.panel_effect.ensures.value ∙ ap (λ (p : Plate). effect_of p c.args.up c.args.species)
    (plate_of_panel c.config-config.result.now c.panels-panels.result.now c.args.number _ plate c.panels-panels.ensures.value c.if-place-panels.true stands)

pub returns-else-place-panels-clause-value : goal.returns-else-place-panels-clause-value
returns-else-place-panels-clause-value c = λ plate there.
    let stands = subst (λ (draft : Draft). slice_get (plates_of draft) c.args.number ≡ Some plate) (sym c.config-config.ensures.value) there in
    c.wall_effect.ensures.value ∙ ap (λ (p : Plate). effect_of p c.args.up c.args.species)
    (plate_of_wall c.config-config.result.now c.panels-panels.result.now c.walls.result.now c.args.number _ plate c.panels-panels.ensures.value c.walls.ensures.value
    c.if-place-panels.false stands)
