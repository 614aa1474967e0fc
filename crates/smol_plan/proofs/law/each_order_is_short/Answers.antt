use Rattle.smol_plan.proofs.StepLemmas.{events_bound}
use Rattle.smol_plan.proofs.law.each_order_is_short.Goals as goal

pub returns : goal.returns
returns c = events_bound
