use Rattle.smol_plan.specs.Machine.{first_state, effects}
use Rattle.smol_plan.proofs.GoodKept.{Good-first, Good-effect, Good-effects}
use Rattle.smol_plan.proofs.ProgressLemmas.{FollowsSerial-from_good}
use Rattle.smol_plan.proofs.law.each_order_follows_serial.Goals as goal

pub returns-clause-kept : goal.returns-clause-kept
returns-clause-kept c pairs workers state event h g = Good-effect pairs state event h.allowed g

pub returns-clause-good : goal.returns-clause-good
returns-clause-good c pairs workers events h =
    Good-effects pairs workers first_state events h (Good-first pairs)

pub returns-clause-serial : goal.returns-clause-serial
returns-clause-serial c pairs workers events h =
    FollowsSerial-from_good pairs (effects pairs first_state events) (Good-effects pairs workers first_state events h (Good-first pairs))
