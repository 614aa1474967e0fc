use Rattle.std.proofs.Common.{subst, FitsSigned, w64, arith}
use Rattle.std.proofs.lemmas.Int.{to_z-of_z}
use Rattle.smol_geom.specs.Axes.{on_axis}
use Rattle.smol_geom.proofs.Sizes.{small_fits}
use Rattle.smol_meaning.specs.declared.sheet.Sheet.TheVariants.{Rectangle}
use Rattle.smol_meaning.specs.Folds.{IsSheet}
use Rattle.smol_meaning.proofs.Bounds.{plane_small}
use Rattle.smol_sheets.proofs.sheet.across.Goals as goal

pub returns-in-Rectangle-clause-size : goal.returns-in-Rectangle-clause-size
returns-in-Rectangle-clause-size c =
    let rect = c.in-Rectangle.rect in
    let small = (plane_small (Rectangle rect) (subst IsSheet c.in-Rectangle.is c.requires)).0 in
    let fits : FitsSigned w64 (on_axis rect.low rect.axis) = small_fits _ (omega (arith, small)) in
    rw (to_z-of_z w64 (on_axis rect.low rect.axis) fits) small
