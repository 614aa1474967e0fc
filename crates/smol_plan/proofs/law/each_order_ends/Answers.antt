use Rattle.smol_plan.proofs.ProgressLemmas.{AllDecided-from_finished, finished_or_enabled}
use Rattle.smol_plan.proofs.law.each_order_ends.Goals as goal

pub returns-clause-decided : goal.returns-clause-decided
returns-clause-decided c = AllDecided-from_finished

pub returns-clause-goes_on : goal.returns-clause-goes_on
returns-clause-goes_on c = finished_or_enabled
