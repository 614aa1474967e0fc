use Rattle.smol_cells.proofs.NumberLemmas.{number_between}
use Rattle.smol_cells.proofs.law.reach_is_between.Goals as goal

pub returns : goal.returns
returns c = number_between
