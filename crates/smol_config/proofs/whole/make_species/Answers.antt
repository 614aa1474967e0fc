use Rattle.std.proofs.Common.{◌≡◌, ◌+◌, ◌<◌, ◌∷◌, ◌++◌, [], true, false, ℤ, length, drop, get_or, nat_le, sym, ap, ◌∙◌, append_assoc, subst, arith, to_z, of_z, w64}
use Rattle.std.specs.List.{list_all}
use Rattle.std.proofs.lemmas.Bool.Decides.{nat_tests}
use Rattle.std.proofs.lemmas.Int.{ints}
use Rattle.std.proofs.lemmas.List.{drop_more, get_or_read}
use Rattle.std.proofs.lemmas.Option.{get_or_from_slice_get}
use Rattle.std.proofs.lemmas.Result.{err_from_is_err_and}
use Rattle.smol_types.specs.declared.species.Species.{Species}
use Rattle.smol_config.specs.Motion.{difstep_of, still}
use Rattle.smol_config.specs.Tables.{species_made}
use Rattle.smol_config.specs.Whole.{has_difstep}
use Rattle.smol_config.proofs.SpeciesNames.{made_from, list_all-failed, list_all-passed}
use Rattle.smol_config.proofs.whole.make_species.Goals as goal

pub loop-number-preserved : goal.loop-number-preserved
loop-number-preserved c =
    let time = to_z w64 (of_z w64 c.args.time) in
    let names = c.args.species.now.names in
    let motions = c.args.species.now.motions.items in
    let n = c.loop-number.number in
    let name = c.name.result.now in
    let made = c.loop-number.made in
    let paired = c.args.species.now.paired in
    let within : n < length names = omega arith in
    let next : drop n names ≡ name ∷ drop (n + 1) names = drop_more names n name within ∙ ap (λ x. x ∷ drop (n + 1) names) (get_or_from_slice_get names n name name c.name.ensures) in
    let motion : c.index.result.now ≡ get_or motions n still = get_or_read motions n c.index.result.now (omega arith) c.index.ensures still in
    let step = c.in_ok-step.ensures.0 ∙ ap (difstep_of time) motion in
    let new : Species = record { name = c.in_ok-name.name; step = c.in_ok-step.step } in
    let item : new ≡ record { name = name; step = difstep_of time (get_or motions n still) } = λ j. record { name = c.in_ok-name.ensures j; step = step j } in
    let rest = species_made time motions (n + 1) (drop (n + 1) names) in
    let slow = c.in_ok-step.ensures.1 in
    let near : has_difstep new ≡ true = grind (arith, nat_tests) in
    record {
      made = ap (λ l. l ++ rest) c.in_ok-push.ensures.ok
          ∙ append_assoc made (new ∷ []) rest
          ∙ ap (λ x. made ++ (x ∷ rest)) item
          ∙ ap (λ l. made ++ l) (sym (made_from time motions names n name next))
          ∙ c.loop-number.invariant.made;
      near = ap (list_all has_difstep) c.in_ok-push.ensures.ok ∙ list_all-passed has_difstep made new c.loop-number.invariant.near near;
    }

pub returns-in_err-step-clause-refused : goal.returns-in_err-step-clause-refused
returns-in_err-step-clause-refused c kind is =
    let time = to_z w64 (of_z w64 c.args.time) in
    let sized = c.ranges.time.sfits in
    let same : time ≡ c.args.time = omega (arith, ints) in
    let names = c.args.species.now.names in
    let motions = c.args.species.now.motions.items in
    let n = c.loop-number.number in
    let made = c.loop-number.made in
    let paired = c.args.species.now.paired in
    let within : n < length names = omega arith in
    let motion : c.index.result.now ≡ get_or motions n still = get_or_read motions n c.index.result.now (omega arith) c.index.ensures still in
    let new : Species = record { name = get_or names n []; step = difstep_of time (get_or motions n still) } in
    let rest = species_made time motions (n + 1) (drop (n + 1) names) in
    let p = err_from_is_err_and c.from_residual.result c.from_residual.ensures.1 in
    let far : has_difstep new ≡ false = ap (λ m. nat_le (difstep_of time m) 1000000000) (sym motion) ∙ c.in_err-step.ensures.1 in
    let all : list_all has_difstep (species_made time motions 0 names) ≡ false =
    ap (list_all has_difstep) (sym c.loop-number.invariant.made ∙ ap (λ l. made ++ l) (made_from time motions names n (get_or names n []) (drop_more names n [] within)))
    ∙ list_all-failed has_difstep made rest new far in (
      cc (p.1, p.2, is, c.in_err-step.ensures.0),
      subst (λ (t : ℤ). list_all has_difstep (species_made t motions 0 names) ≡ false) same all,
    )
