use Rattle.smol_reactions.proofs.RatedAlone.{rates_enough, rates_leave_all}
use Rattle.smol_reactions.proofs.law.rates_share_the_words.Goals as goal

pub returns-clause-words : goal.returns-clause-words
returns-clause-words c = rates_enough

pub returns-clause-chances : goal.returns-clause-chances
returns-clause-chances c = rates_leave_all
