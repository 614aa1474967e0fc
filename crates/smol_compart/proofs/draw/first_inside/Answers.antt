use Rattle.std.proofs.Common.{◌≡◌, ◌+◌, ◌-◌, ℕ, suc, ◌^◌, sym, subst, ap, ◌∙◌, arith, true, false, Some}
use Rattle.smol_geom.specs.declared.place.Place.{Place}
use Rattle.smol_meaning.specs.Inside.{is_inside}
use Rattle.smol_meaning.specs.Placement.{anywhere, first_inside, most_tries, place_at_try}
use Rattle.smol_meaning.specs.Sighted.{IsPlaceWithin}
use Rattle.smol_meaning.proofs.Opening.{anywhere_within}
use Rattle.smol_compart.proofs.Drawing.{first_inside-none, first_inside-here, first_inside-later}
use Rattle.smol_compart.proofs.draw.first_inside.Goals as goal

pub inside-requires-clause-place : goal.inside-requires-clause-place
inside-requires-clause-place c =
    subst (IsPlaceWithin (2 ^ 57)) (sym c.place_at_try-place.ensures.place)
    (anywhere_within c.args.config.now c.loop-attempt.streams c.args.serial c.loop-attempt.attempt c.place_at_try-place.ensures.sound)

pub returns-then-inside-clause-place : goal.returns-then-inside-clause-place
returns-then-inside-clause-place c =
    let config = c.args.config.now in
    let seed = c.loop-attempt.streams in
    let try = c.loop-attempt.attempt in
    let left : most_tries - try ≡ suc (most_tries - (try + 1)) = omega arith in
    let here : is_inside config c.args.compartment (place_at_try config seed c.args.serial try anywhere) ≡ true =
    ap (is_inside config c.args.compartment) (sym c.place_at_try-place.ensures.place) ∙ sym c.inside.ensures ∙ c.if-inside.true in
    ap (λ (place : Place). Some place) c.place_at_try-place.ensures.place
    ∙ sym (first_inside-here config seed c.args.serial c.args.compartment try (most_tries - (try + 1)) here)
    ∙ sym (ap (λ (n : ℕ). first_inside config seed c.args.serial c.args.compartment try n) left)
    ∙ c.loop-attempt.invariant.found
    ∙ ap (λ (s : ℕ). first_inside config s c.args.serial c.args.compartment 0 most_tries) c.loop-attempt.invariant.seed

pub loop-attempt-preserved : goal.loop-attempt-preserved
loop-attempt-preserved c =
    let config = c.args.config.now in
    let seed = c.loop-attempt.streams in
    let try = c.loop-attempt.attempt in
    let left : most_tries - try ≡ suc (most_tries - (try + 1)) = omega arith in
    let not_here : is_inside config c.args.compartment (place_at_try config seed c.args.serial try anywhere) ≡ false =
    ap (is_inside config c.args.compartment) (sym c.place_at_try-place.ensures.place) ∙ sym c.inside.ensures ∙ c.if-inside.false in
    let same = c.place_at_try-place.ensures.seed in
    let found =
    sym (first_inside-later config seed c.args.serial c.args.compartment try (most_tries - (try + 1)) not_here)
    ∙ sym (ap (λ (n : ℕ). first_inside config seed c.args.serial c.args.compartment try n) left)
    ∙ c.loop-attempt.invariant.found in
    record {
      found = subst (λ (s : ℕ). first_inside config s c.args.serial c.args.compartment (try + 1) (most_tries - (try + 1))
          ≡ first_inside config s c.args.serial c.args.compartment 0 most_tries) (sym same) found;
      seed = same ∙ c.loop-attempt.invariant.seed;
    }

pub returns-clause-place : goal.returns-clause-place
returns-clause-place c =
    let config = c.args.config.now in
    let seed = c.loop-attempt.streams in
    let try = c.loop-attempt.attempt in
    let over : most_tries - try ≡ 0 = omega arith in
    sym (first_inside-none config seed c.args.serial c.args.compartment try)
    ∙ sym (ap (λ (n : ℕ). first_inside config seed c.args.serial c.args.compartment try n) over)
    ∙ c.loop-attempt.invariant.found
    ∙ ap (λ (s : ℕ). first_inside config s c.args.serial c.args.compartment 0 most_tries) c.loop-attempt.invariant.seed
