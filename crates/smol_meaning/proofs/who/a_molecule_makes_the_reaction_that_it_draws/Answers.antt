use Rattle.smol_meaning.proofs.Drawing.{drawn_alone}
use Rattle.smol_meaning.proofs.who.a_molecule_makes_the_reaction_that_it_draws.Goals as goal

pub returns : goal.returns
returns c = drawn_alone
