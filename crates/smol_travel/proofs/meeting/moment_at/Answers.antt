use Rattle.std.proofs.Common.{◌≡◌, ◌≤◌, ◌^◌, ◌*ℤ◌, ◌+ℤ◌, unsigned_abs, FitsSigned, w64, Some, sym, ◌∙◌, ap, subst, arith}
use Rattle.std.specs.Int.{w8}
use Rattle.std.proofs.lemmas.Bool.{eq-eqb}
use Rattle.std.proofs.lemmas.Int.{to_z-of_z}
use Rattle.smol_geom.specs.Axes.{on_axis, IsEven}
use Rattle.smol_geom.specs.Fold.{IsSign}
use Rattle.smol_geom.proofs.EachAxis.{at_axis}
use Rattle.smol_geom.proofs.Sizes.{small_fits}
use Rattle.smol_geom.specs.Moments.{ticks, coordinate_after}
use Rattle.smol_travel.proofs.Ticks.{fold_is, unfold_is, unfold_even, sign_fits, none_some, some_num}
use Rattle.smol_travel.proofs.meeting.moment_at.Goals as goal

pub unfolded-goal-requires-clause-sign : goal.unfolded-goal-requires-clause-sign
unfolded-goal-requires-clause-sign c =
    let sign = at_axis (λ j. IsSign (on_axis c.args.leg.now.fold.sign j)) c.args.axis c.requires.axis c.requires.leg.fold.fold in
    let fits : FitsSigned w8 (on_axis c.args.leg.now.fold.sign c.args.axis) = sign_fits _ sign in
    rw (to_z-of_z w8 (on_axis c.args.leg.now.fold.sign c.args.axis) fits) sign

pub ticks_to-requires-clause-start : goal.ticks_to-requires-clause-start
ticks_to-requires-clause-start c =
    let size = at_axis (λ j. unsigned_abs (on_axis c.args.leg.now.from.0 j) ≤ 2 ^ 57) c.args.axis c.requires.axis c.requires.leg.from in
    let fits : FitsSigned w64 (on_axis c.args.leg.now.from.0 c.args.axis) = small_fits _ (omega (arith, size)) in
    rw (to_z-of_z w64 (on_axis c.args.leg.now.from.0 c.args.axis) fits) size

pub ticks_to-requires-clause-way : goal.ticks_to-requires-clause-way
ticks_to-requires-clause-way c =
    let size = at_axis (λ j. unsigned_abs (on_axis c.args.leg.now.by.0 j) ≤ 2 ^ 34) c.args.axis c.requires.axis c.requires.leg.by in
    let fits : FitsSigned w64 (on_axis c.args.leg.now.by.0 c.args.axis) = small_fits _ (omega (arith, size)) in
    rw (to_z-of_z w64 (on_axis c.args.leg.now.by.0 c.args.axis) fits) size

pub returns-in_err-num-clause-only : goal.returns-in_err-num-clause-only
returns-in_err-num-clause-only c = λ m is axis plane.
    let sign = at_axis (λ j. IsSign (on_axis c.args.leg.now.fold.sign j)) c.args.axis c.requires.axis c.requires.leg.fold.fold in
    let sign_fit : FitsSigned w8 (on_axis c.args.leg.now.fold.sign c.args.axis) = sign_fits _ sign in
    let from_size = at_axis (λ j. unsigned_abs (on_axis c.args.leg.now.from.0 j) ≤ 2 ^ 57) c.args.axis c.requires.axis c.requires.leg.from in
    let from_fits : FitsSigned w64 (on_axis c.args.leg.now.from.0 c.args.axis) = small_fits _ (omega (arith, from_size)) in
    let by_size = at_axis (λ j. unsigned_abs (on_axis c.args.leg.now.by.0 j) ≤ 2 ^ 34) c.args.axis c.requires.axis c.requires.leg.by in
    let by_fits : FitsSigned w64 (on_axis c.args.leg.now.by.0 c.args.axis) = small_fits _ (omega (arith, by_size)) in
    let shift_size = at_axis (λ j. unsigned_abs (on_axis c.args.leg.now.fold.shift j) ≤ 2 ^ 58) c.args.axis c.requires.axis c.requires.leg.fold.size in
    let shift_fits : FitsSigned w64 (on_axis c.args.leg.now.fold.shift c.args.axis) = small_fits _ (omega (arith, shift_size)) in
    let plane_fits = c.ranges.plane in
    let goal_fits : FitsSigned w64 c.unfolded-goal.result = small_fits _ (omega (arith, c.unfolded-goal.ensures.size)) in
    let goal_is = simp (to_z-of_z, sign_fit, shift_fits, plane_fits) at c.unfolded-goal.ensures.value in
    let only = simp (to_z-of_z, from_fits, by_fits, goal_fits) at c.in_err-num.ensures.only in
    let den : m.den ≡ ticks c.args.leg.now.by c.args.axis = is.den ∙ ap (ticks c.args.leg.now.by) axis in
    let at_plane = subst (λ k. on_axis c.args.leg.now.fold.sign k *ℤ coordinate_after c.args.leg.now.from c.args.leg.now.by k m.num +ℤ on_axis c.args.leg.now.fold.shift k ≡ c.args.plane) axis plane in
    let there = unfold_is _ (coordinate_after c.args.leg.now.from c.args.leg.now.by c.args.axis m.num) _ _ sign at_plane ∙ sym goal_is in
    absurd (none_some m.num (only m.num is.begun (omega (arith, is.unfinished, den)) there))

pub returns-clause-moment : goal.returns-clause-moment
returns-clause-moment c =
    let sign = at_axis (λ j. IsSign (on_axis c.args.leg.now.fold.sign j)) c.args.axis c.requires.axis c.requires.leg.fold.fold in
    let sign_fit : FitsSigned w8 (on_axis c.args.leg.now.fold.sign c.args.axis) = sign_fits _ sign in
    let from_size = at_axis (λ j. unsigned_abs (on_axis c.args.leg.now.from.0 j) ≤ 2 ^ 57) c.args.axis c.requires.axis c.requires.leg.from in
    let from_fits : FitsSigned w64 (on_axis c.args.leg.now.from.0 c.args.axis) = small_fits _ (omega (arith, from_size)) in
    let by_size = at_axis (λ j. unsigned_abs (on_axis c.args.leg.now.by.0 j) ≤ 2 ^ 34) c.args.axis c.requires.axis c.requires.leg.by in
    let by_fits : FitsSigned w64 (on_axis c.args.leg.now.by.0 c.args.axis) = small_fits _ (omega (arith, by_size)) in
    let shift_size = at_axis (λ j. unsigned_abs (on_axis c.args.leg.now.fold.shift j) ≤ 2 ^ 58) c.args.axis c.requires.axis c.requires.leg.fold.size in
    let shift_fits : FitsSigned w64 (on_axis c.args.leg.now.fold.shift c.args.axis) = small_fits _ (omega (arith, shift_size)) in
    let plane_fits = c.ranges.plane in
    let goal_fits : FitsSigned w64 c.unfolded-goal.result = small_fits _ (omega (arith, c.unfolded-goal.ensures.size)) in
    let goal_is = simp (to_z-of_z, sign_fit, shift_fits, plane_fits) at c.unfolded-goal.ensures.value in
    let even_shift = at_axis (λ j. IsEven (on_axis c.args.leg.now.fold.shift j)) c.args.axis c.requires.axis c.requires.leg.fold.even in
    let there = simp (to_z-of_z, from_fits, by_fits, goal_fits) at c.in_ok-num.ensures.there in
    let less = simp (to_z-of_z, by_fits) at c.in_ok-num.ensures.unfinished in
    let den = simp (to_z-of_z, by_fits) at c.unsigned_abs.ensures.value in
    record {
      axis = c.requires.axis;
      den = den;
      begun = c.in_ok-num.ensures.begun;
      unfinished = omega (arith, less, den);
      even = eq-eqb _ _ (unfold_even (on_axis c.args.leg.now.fold.sign c.args.axis) (on_axis c.args.leg.now.fold.shift c.args.axis) c.args.plane (coordinate_after c.args.leg.now.from c.args.leg.now.by c.args.axis c.in_ok-num.num) sign even_shift c.requires.even (there ∙ goal_is));
    }

pub returns-clause-there : goal.returns-clause-there
returns-clause-there c =
    let sign = at_axis (λ j. IsSign (on_axis c.args.leg.now.fold.sign j)) c.args.axis c.requires.axis c.requires.leg.fold.fold in
    let sign_fit : FitsSigned w8 (on_axis c.args.leg.now.fold.sign c.args.axis) = sign_fits _ sign in
    let from_size = at_axis (λ j. unsigned_abs (on_axis c.args.leg.now.from.0 j) ≤ 2 ^ 57) c.args.axis c.requires.axis c.requires.leg.from in
    let from_fits : FitsSigned w64 (on_axis c.args.leg.now.from.0 c.args.axis) = small_fits _ (omega (arith, from_size)) in
    let by_size = at_axis (λ j. unsigned_abs (on_axis c.args.leg.now.by.0 j) ≤ 2 ^ 34) c.args.axis c.requires.axis c.requires.leg.by in
    let by_fits : FitsSigned w64 (on_axis c.args.leg.now.by.0 c.args.axis) = small_fits _ (omega (arith, by_size)) in
    let shift_size = at_axis (λ j. unsigned_abs (on_axis c.args.leg.now.fold.shift j) ≤ 2 ^ 58) c.args.axis c.requires.axis c.requires.leg.fold.size in
    let shift_fits : FitsSigned w64 (on_axis c.args.leg.now.fold.shift c.args.axis) = small_fits _ (omega (arith, shift_size)) in
    let plane_fits = c.ranges.plane in
    let goal_fits : FitsSigned w64 c.unfolded-goal.result = small_fits _ (omega (arith, c.unfolded-goal.ensures.size)) in
    let goal_is = simp (to_z-of_z, sign_fit, shift_fits, plane_fits) at c.unfolded-goal.ensures.value in
    let there = simp (to_z-of_z, from_fits, by_fits, goal_fits) at c.in_ok-num.ensures.there in
    fold_is _ _ _ _ sign (there ∙ goal_is)

pub returns-clause-only : goal.returns-clause-only
returns-clause-only c = λ m is axis plane.
    let sign = at_axis (λ j. IsSign (on_axis c.args.leg.now.fold.sign j)) c.args.axis c.requires.axis c.requires.leg.fold.fold in
    let sign_fit : FitsSigned w8 (on_axis c.args.leg.now.fold.sign c.args.axis) = sign_fits _ sign in
    let from_size = at_axis (λ j. unsigned_abs (on_axis c.args.leg.now.from.0 j) ≤ 2 ^ 57) c.args.axis c.requires.axis c.requires.leg.from in
    let from_fits : FitsSigned w64 (on_axis c.args.leg.now.from.0 c.args.axis) = small_fits _ (omega (arith, from_size)) in
    let by_size = at_axis (λ j. unsigned_abs (on_axis c.args.leg.now.by.0 j) ≤ 2 ^ 34) c.args.axis c.requires.axis c.requires.leg.by in
    let by_fits : FitsSigned w64 (on_axis c.args.leg.now.by.0 c.args.axis) = small_fits _ (omega (arith, by_size)) in
    let shift_size = at_axis (λ j. unsigned_abs (on_axis c.args.leg.now.fold.shift j) ≤ 2 ^ 58) c.args.axis c.requires.axis c.requires.leg.fold.size in
    let shift_fits : FitsSigned w64 (on_axis c.args.leg.now.fold.shift c.args.axis) = small_fits _ (omega (arith, shift_size)) in
    let plane_fits = c.ranges.plane in
    let goal_fits : FitsSigned w64 c.unfolded-goal.result = small_fits _ (omega (arith, c.unfolded-goal.ensures.size)) in
    let goal_is = simp (to_z-of_z, sign_fit, shift_fits, plane_fits) at c.unfolded-goal.ensures.value in
    let only = simp (to_z-of_z, from_fits, by_fits, goal_fits) at c.in_ok-num.ensures.only in
    let den : m.den ≡ ticks c.args.leg.now.by c.args.axis = is.den ∙ ap (ticks c.args.leg.now.by) axis in
    let den_is = simp (to_z-of_z, by_fits) at c.unsigned_abs.ensures.value in
    let at_plane = subst (λ k. on_axis c.args.leg.now.fold.sign k *ℤ coordinate_after c.args.leg.now.from c.args.leg.now.by k m.num +ℤ on_axis c.args.leg.now.fold.shift k ≡ c.args.plane) axis plane in
    let there = unfold_is _ (coordinate_after c.args.leg.now.from c.args.leg.now.by c.args.axis m.num) _ _ sign at_plane ∙ sym goal_is in
    let num = some_num _ _ (only m.num is.begun (omega (arith, is.unfinished, den)) there) in
    λ i. Some (record { num = num i; den = (den_is ∙ sym den) i; axis = sym axis i })
