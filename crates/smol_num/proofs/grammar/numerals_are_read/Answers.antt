use Rattle.smol_num.proofs.GrammarLemmas.{decimal_of-spelled, decimal_of-unspelled}
use Rattle.smol_num.proofs.grammar.numerals_are_read.Goals as goal

pub returns-clause-spelled : goal.returns-clause-spelled
returns-clause-spelled c = decimal_of-spelled

pub returns-clause-others : goal.returns-clause-others
returns-clause-others c = decimal_of-unspelled
