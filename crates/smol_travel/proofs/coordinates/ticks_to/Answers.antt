use Rattle.std.proofs.Common.{ℕ, ◌-ℤ◌, FitsSigned, w64, Some, refl, ◌∙◌, ap, arith}
use Rattle.std.proofs.lemmas.Bool.{both_ways}
use Rattle.std.proofs.lemmas.Int.{ints, to_z-of_z}
use Rattle.smol_geom.proofs.Sizes.{small_fits}
use Rattle.smol_travel.proofs.Ticks.{ticks_there, ticks_only}
use Rattle.smol_travel.proofs.coordinates.ticks_to.Goals as goal
use Rattle.smol_travel.proofs.coordinates.ticks_to.Goals.{else-is_same_way-via-then-is_same_way+else-num-unsigned_abs, else-is_same_way-via-else-is_same_way}

pub returns-then-num-unsigned_abs-clause-there : goal.returns-then-num-unsigned_abs-clause-there
returns-then-num-unsigned_abs-clause-there c =
    let gap_fits : FitsSigned w64 (c.args.goal -ℤ c.args.start) = small_fits _ (omega (arith, ints, c.requires.start, c.requires.goal)) in
    let size = simp (to_z-of_z, c.ranges.start, c.ranges.goal, c.ranges.way, gap_fits) at c.unsigned_abs-num.ensures.value in
    let same = simp (to_z-of_z, c.ranges.start, c.ranges.goal, c.ranges.way, gap_fits) at c.if-is_same_way.ensures in
    ticks_there c.args.start c.args.way c.args.goal (c.args.goal -ℤ c.args.start) c.unsigned_abs-num.result refl size (same.0 refl)

pub returns-then-num-unsigned_abs-clause-only : goal.returns-then-num-unsigned_abs-clause-only
returns-then-num-unsigned_abs-clause-only c = λ n some less there.
    let gap_fits : FitsSigned w64 (c.args.goal -ℤ c.args.start) = small_fits _ (omega (arith, ints, c.requires.start, c.requires.goal)) in
    let size = simp (to_z-of_z, c.ranges.start, c.ranges.goal, c.ranges.way, gap_fits) at c.unsigned_abs-num.ensures.value in
    let only = ticks_only c.args.start c.args.way c.args.goal (c.args.goal -ℤ c.args.start) n refl some there in
    ap (λ (k : ℕ). Some k) (size ∙ only.1)

pub returns-else-is_same_way-clause-only : goal.returns-else-is_same_way-clause-only
returns-else-is_same_way-clause-only c = λ n some less there.
    let gap_fits : FitsSigned w64 (c.args.goal -ℤ c.args.start) = small_fits _ (omega (arith, ints, c.requires.start, c.requires.goal)) in
    let size = simp (to_z-of_z, c.ranges.start, c.ranges.goal, c.ranges.way, gap_fits) at c.unsigned_abs-num.ensures.value in
    let same = simp (to_z-of_z, c.ranges.start, c.ranges.goal, c.ranges.way, gap_fits) at c.is_same_way.ensures in
    let only = ticks_only c.args.start c.args.way c.args.goal (c.args.goal -ℤ c.args.start) n refl some there in
    elim c.else-is_same_way.branch [
      | else-is_same_way-via-then-is_same_way+else-num-unsigned_abs w ↦
          let far = simp (to_z-of_z, c.ranges.start, c.ranges.goal, c.ranges.way, gap_fits) at w.unsigned_abs.ensures.value in
          let long = w.if-num-unsigned_abs.false in
          absurd (omega (arith, size, only.1, less, far, long))
      | else-is_same_way-via-else-is_same_way w ↦ absurd (both_ways c.is_same_way.result w.if-is_same_way.false (same.1 only.0))
    ]
