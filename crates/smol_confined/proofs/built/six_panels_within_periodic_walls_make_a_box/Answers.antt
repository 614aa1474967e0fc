use Rattle.smol_confined.specs.Example.{small_box}
use Rattle.smol_confined.proofs.Exemplary.{small_box_is_built}
use Rattle.smol_confined.proofs.Holding.{is_closed_box}
use Rattle.smol_confined.proofs.built.six_panels_within_periodic_walls_make_a_box.Goals as goal

pub returns : goal.returns
returns c = λ draft sound has. is_closed_box draft small_box sound (small_box_is_built draft has)
