use Rattle.std.proofs.Common.{◌≡◌, length}
use Rattle.smol_plan.specs.Pair.{IsOrdered}
use Rattle.smol_plan.proofs.tests.apart.Given as goal

abbrev pub invariant-loop-k : goal.invariant-loop-k
invariant-loop-k l = record { ordered : IsOrdered l.pairs.items; len : length l.pairs.items ≡ l.k }
