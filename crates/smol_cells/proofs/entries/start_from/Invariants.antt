use Rattle.std.proofs.Common.{ℕ, ◌-◌, ◌<◌, ◌≤◌, length}
use Rattle.smol_cells.specs.Entries.{number_at}
use Rattle.smol_cells.proofs.entries.start_from.Given as goal

abbrev pub invariant-loop-next : goal.invariant-loop-next
invariant-loop-next l = record {
  inside : l.next ≤ length l.entries;
  lower : (q : ℕ) → q < l.next → number_at l.entries q < l.number;
}

abbrev pub decreases-loop-next : goal.decreases-loop-next
decreases-loop-next l = length l.entries - l.next
