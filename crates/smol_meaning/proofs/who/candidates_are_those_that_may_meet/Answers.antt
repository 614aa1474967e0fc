use Rattle.smol_meaning.proofs.MayMeeting.{is_candidate, may_meet}
use Rattle.smol_meaning.proofs.Orders.{candidates_in_order, encounters_in_order}
use Rattle.smol_meaning.proofs.who.candidates_are_those_that_may_meet.Goals as goal

pub returns-clause-encounters : goal.returns-clause-encounters
returns-clause-encounters c = may_meet

pub returns-clause-candidates : goal.returns-clause-candidates
returns-clause-candidates c = is_candidate

pub returns-clause-order : goal.returns-clause-order
returns-clause-order c = encounters_in_order

pub returns-clause-serials : goal.returns-clause-serials
returns-clause-serials c = candidates_in_order
