use Rattle.smol_confined.specs.Built.{box_of_walls}
use Rattle.smol_confined.proofs.Holding.{is_closed, is_closed_box}
use Rattle.smol_confined.proofs.Walled.{walls_build}
use Rattle.smol_confined.proofs.built.walls_that_reflect_make_a_box.Goals as goal

pub returns-clause-some : goal.returns-clause-some
returns-clause-some c =
    λ draft among sound all jumps changes.
    is_closed draft among (box_of_walls draft.walls) sound (λ species kin. walls_build draft sound all species (jumps species kin)) changes

pub returns-clause-every : goal.returns-clause-every
returns-clause-every c =
    λ draft sound all jumps.
    is_closed_box draft (box_of_walls draft.walls) sound (λ species within. walls_build draft sound all species (jumps species within))
