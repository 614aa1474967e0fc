use Rattle.smol_claims.proofs.EventLemmas.{opens_first, take_is_event, look_is_no_event, decide_is_event, tell_is_event, split_is_no_event, join_is_no_event}
use Rattle.smol_claims.proofs.law.each_step_is_an_event.Goals as goal

pub returns-clause-first : goal.returns-clause-first
returns-clause-first c = opens_first

pub returns-clause-take : goal.returns-clause-take
returns-clause-take c = take_is_event

pub returns-clause-look : goal.returns-clause-look
returns-clause-look c = look_is_no_event

pub returns-clause-decide : goal.returns-clause-decide
returns-clause-decide c = decide_is_event

pub returns-clause-tell : goal.returns-clause-tell
returns-clause-tell c = tell_is_event

pub returns-clause-split : goal.returns-clause-split
returns-clause-split c = split_is_no_event

pub returns-clause-join : goal.returns-clause-join
returns-clause-join c = join_is_no_event
