use Rattle.smol_plan.specs.Pair.{IsOrdered}
use Rattle.smol_claims.proofs.tests.apart.Given as goal

abbrev pub invariant-loop-k : goal.invariant-loop-k
invariant-loop-k l = IsOrdered l.pairs.items
