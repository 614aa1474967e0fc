use Rattle.smol_plan.specs.Pair.{IsOrdered}
use Rattle.smol_plan.proofs.tests.pairs_of.Given as goal

abbrev pub invariant-loop-a : goal.invariant-loop-a
invariant-loop-a l = IsOrdered l.pairs.items
