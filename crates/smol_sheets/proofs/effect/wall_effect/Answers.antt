use Rattle.std.proofs.Common.{◌-◌, length, sym, subst}
use Rattle.std.specs.Prelude.{All}
use Rattle.smol_types.specs.declared.wall.Wall.{Wall}
use Rattle.smol_meaning.specs.Folds.{IsWallPlane}
use Rattle.smol_meaning.proofs.Seeing.{wall_planes_fit}
use Rattle.smol_sheets.proofs.Numbered.{wall_got}
use Rattle.smol_sheets.proofs.effect.wall_effect.Goals as goal

pub wall_jump-jump-requires-clause-walls : goal.wall_jump-jump-requires-clause-walls
wall_jump-jump-requires-clause-walls c =
    subst (λ walls. All (λ (wall : Wall). IsWallPlane wall.axis wall.plane) walls) (sym c.walls.ensures.value) (wall_planes_fit c.args.config.now c.walls.ensures.sound)

pub wall_jump-jump-requires-clause-wall : goal.wall_jump-jump-requires-clause-wall
wall_jump-jump-requires-clause-wall c =
    wall_got c.args.config.now (c.args.number - length c.args.config.now.panels) c.args.wall.now c.walls.ensures.sound c.requires.wall
