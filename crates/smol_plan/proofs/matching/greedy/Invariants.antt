use Rattle.std.proofs.Common.{◌≡◌, nat_eq, ◌++◌, drop}
use Rattle.std.specs.HashSet.{contains}
use Rattle.smol_plan.specs.Matching.{serial_from, serial}
use Rattle.smol_plan.proofs.matching.greedy.Given as goal

-- what was answered so far, before what the walk answers for the rest, is the whole answer
abbrev pub invariant-loop-pair : goal.invariant-loop-pair
invariant-loop-pair l =
    l.fired.items ++ serial_from (contains nat_eq l.taken) (drop l.pair-index l.pairs) ≡ serial l.pairs
