use Rattle.std.proofs.Common.{◌≡◌, ◌*◌, ◌++◌, drop, map, vec_len}
use Rattle.smol_plan.specs.Entries.{entries_from, entry_of}
use Rattle.smol_plan.proofs.entries.Entries.of_pairs.Given as goal

-- the entries so far, two for each pair, before those of the rest
abbrev pub invariant-loop-pair : goal.invariant-loop-pair
invariant-loop-pair l = record {
  two_each : vec_len l.numbers ≡ 2 * l.pair-index;
  before : map entry_of l.numbers.items ++ entries_from l.pair-index (drop l.pair-index l.pairs) ≡ entries_from 0 l.pairs;
}
