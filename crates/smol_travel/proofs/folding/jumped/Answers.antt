use Rattle.std.proofs.Common.{◌≤◌, ◌^◌, unsigned_abs, sym, subst, FitsSigned, w64, arith}
use Rattle.std.proofs.lemmas.Int.{to_z-of_z}
use Rattle.smol_geom.specs.Axes.{on_axis}
use Rattle.smol_geom.specs.Fold.{IsFold}
use Rattle.smol_geom.proofs.EachAxis.{at_axis}
use Rattle.smol_geom.proofs.Sizes.{small_fits}
use Rattle.smol_travel.proofs.folding.jumped.Goals as goal

pub sum-requires-clause-b : goal.sum-requires-clause-b
sum-requires-clause-b c =
    let size = at_axis (λ j. unsigned_abs (on_axis c.args.by j) ≤ 2 ^ 42) c.args.axis c.requires.axis c.requires.by in
    let fits : FitsSigned w64 (on_axis c.args.by c.args.axis) = small_fits _ (omega (arith, size)) in
    rw (to_z-of_z w64 (on_axis c.args.by c.args.axis) fits) (omega (arith, size))

pub mirrored-requires-clause-fold : goal.mirrored-requires-clause-fold
mirrored-requires-clause-fold c = subst IsFold (sym c.shifted-there.ensures) c.requires.fold
