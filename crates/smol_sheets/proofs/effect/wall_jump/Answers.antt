use Rattle.std.proofs.Common.{sym, subst, FitsSigned, w64, arith}
use Rattle.std.specs.Prelude.{IfSome}
use Rattle.std.proofs.lemmas.Int.{to_z-of_z}
use Rattle.smol_geom.proofs.Sizes.{small_fits}
use Rattle.smol_types.specs.declared.wall.Wall.{Wall}
use Rattle.smol_meaning.specs.Folds.{IsWallPlane}
use Rattle.smol_sheets.proofs.Numbered.{opposite_fits}
use Rattle.smol_sheets.proofs.effect.wall_jump.Goals as goal

pub gap-requires-clause-to : goal.gap-requires-clause-to
gap-requires-clause-to c =
    let fit = subst (λ o. IfSome o (λ (other : Wall). IsWallPlane other.axis other.plane)) (sym c.in-Some.ensures) (opposite_fits c.args.walls.now c.args.wall.now c.requires.walls) in
    let fits : FitsSigned w64 c.in-Some.other.plane = small_fits _ (omega (arith, fit.size)) in
    rw (to_z-of_z w64 c.in-Some.other.plane fits) fit.size
