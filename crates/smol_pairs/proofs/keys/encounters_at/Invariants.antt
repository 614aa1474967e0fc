use Rattle.std.proofs.Common.{◌≡◌, map, take}
use Rattle.smol_pairs.specs.Keys.{ranks_at}
use Rattle.smol_pairs.proofs.keys.encounters_at.Given as goal

-- the encounters of the numbers so far
abbrev pub invariant-loop-number : goal.invariant-loop-number
invariant-loop-number l = l.found.items ≡ map ranks_at (take l.number-index l.numbers)
