use Rattle.smol_plan.specs.Linked.{LinkedUpTo}
use Rattle.smol_plan.proofs.plan.join_all.Given as goal

abbrev pub invariant-loop-next : goal.invariant-loop-next
invariant-loop-next l = LinkedUpTo l.entries l.links l.next
