use Rattle.std.proofs.Common.{◌≡◌, ◌++◌, drop}
use Rattle.smol_cells.specs.Entries.{entries_from}
use Rattle.smol_cells.proofs.entries.entries_of_ranges.Given as goal

-- the entries so far, before those of the rest
abbrev pub invariant-loop-index : goal.invariant-loop-index
invariant-loop-index l =
    l.entries.items ++ entries_from l.grid.counts l.index (drop l.index l.ranges) ≡ entries_from l.grid.counts 0 l.ranges
