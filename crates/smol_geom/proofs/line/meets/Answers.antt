use Rattle.std.proofs.Common.{◌≤◌, ◌^◌, unsigned_abs, w64, FitsSigned, arith}
use Rattle.std.proofs.lemmas.Int.{ints, to_z-of_z}
use Rattle.smol_geom.specs.Axes.{on_axis}
use Rattle.smol_geom.proofs.EachAxis.{at_axis}
use Rattle.smol_geom.proofs.Lines.{passes_plane, meets_at_plane, meets_there}
use Rattle.smol_geom.proofs.Sizes.{size_on, small_fits}
use Rattle.smol_geom.proofs.line.meets.Goals as goal

pub is_held-requires-clause-part : goal.is_held-requires-clause-part
is_held-requires-clause-part c =
    let rect = c.args.rect.now in
    let plane = at_axis (λ axis. unsigned_abs (on_axis rect.low axis) ≤ 2 ^ 58) rect.axis c.requires.rect.axis c.requires.low in
    let start = at_axis (λ axis. unsigned_abs (on_axis c.args.a.now.0 axis) ≤ 2 ^ 58) rect.axis c.requires.rect.axis c.requires.a in
    let end = at_axis (λ axis. unsigned_abs (on_axis c.args.b.now.0 axis) ≤ 2 ^ 58) rect.axis c.requires.rect.axis c.requires.b in
    let plane_fits : FitsSigned w64 (on_axis rect.low rect.axis) = small_fits _ (omega arith) in
    let start_fits : FitsSigned w64 (on_axis c.args.a.now.0 rect.axis) = small_fits _ (omega arith) in
    let end_fits : FitsSigned w64 (on_axis c.args.b.now.0 rect.axis) = small_fits _ (omega arith) in
    let num = simp to_z-of_z at c.abs_diff.ensures in
    let den = simp to_z-of_z at c.abs_diff-2.ensures in
    record { num = omega (arith, ints); den = omega (arith, ints) }

pub returns-else-lies_between : goal.returns-else-lies_between
returns-else-lies_between c =
    let rect = c.args.rect.now in
    let axis = c.requires.rect.axis in
    let plane_fits : FitsSigned w64 (on_axis rect.low rect.axis) = small_fits _ (size_on rect.low rect.axis axis c.requires.low) in
    let start_fits : FitsSigned w64 (on_axis c.args.a.now.0 rect.axis) = small_fits _ (size_on c.args.a.now.0 rect.axis axis c.requires.a) in
    let end_fits : FitsSigned w64 (on_axis c.args.b.now.0 rect.axis) = small_fits _ (size_on c.args.b.now.0 rect.axis axis c.requires.b) in
    let between = simp to_z-of_z at c.lies_between.ensures in (
      λ yes. absurd (cc),
      λ met. between.1 (passes_plane rect c.args.a.now c.args.b.now c.requires.rect c.requires.a_odd c.requires.b_odd c.requires.plane_even met),
    )

pub returns-then-lies_between : goal.returns-then-lies_between
returns-then-lies_between c =
    let rect = c.args.rect.now in
    let axis = c.requires.rect.axis in
    let plane_fits : FitsSigned w64 (on_axis rect.low rect.axis) = small_fits _ (size_on rect.low rect.axis axis c.requires.low) in
    let start_fits : FitsSigned w64 (on_axis c.args.a.now.0 rect.axis) = small_fits _ (size_on c.args.a.now.0 rect.axis axis c.requires.a) in
    let end_fits : FitsSigned w64 (on_axis c.args.b.now.0 rect.axis) = small_fits _ (size_on c.args.b.now.0 rect.axis axis c.requires.b) in
    let between_when = simp to_z-of_z at c.lies_between.ensures in
    let between = between_when.0 c.if-lies_between.true in
    let gap = simp to_z-of_z at c.abs_diff.ensures in
    let length = simp to_z-of_z at c.abs_diff-2.ensures in (
      λ yes. meets_there rect c.args.a.now c.args.b.now c.way.result c.abs_diff.result c.abs_diff-2.result between gap length c.way.ensures.value
          (c.is_held.ensures.0 yes),
      λ met. c.is_held.ensures.1 (meets_at_plane rect c.args.a.now c.args.b.now c.way.result c.abs_diff.result c.abs_diff-2.result c.requires.rect between gap length c.way.ensures.value met),
    )
