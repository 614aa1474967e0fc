use Rattle.smol_confined.proofs.Holding.{is_closed, is_closed_box}
use Rattle.smol_confined.proofs.built.faces_that_reflect_make_a_box.Goals as goal

pub returns-clause-some : goal.returns-clause-some
returns-clause-some c = is_closed

pub returns-clause-every : goal.returns-clause-every
returns-clause-every c = is_closed_box
