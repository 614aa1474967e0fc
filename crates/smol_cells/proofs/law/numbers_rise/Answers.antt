use Rattle.smol_cells.proofs.NumberLemmas.{number_up}
use Rattle.smol_cells.proofs.law.numbers_rise.Goals as goal

pub returns : goal.returns
returns c = number_up
