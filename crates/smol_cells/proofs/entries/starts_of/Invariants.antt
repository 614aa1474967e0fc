use Rattle.std.proofs.Common.{◌≡◌, ℕ, ◌<◌, ◌≤◌, length}
use Rattle.smol_cells.specs.Entries.{number_at}
use Rattle.smol_cells.specs.Starts.{AreStarts}
use Rattle.smol_cells.proofs.entries.starts_of.Given as goal

abbrev pub invariant-loop-number : goal.invariant-loop-number
invariant-loop-number l = record {
  len : length l.starts.items ≡ l.number;
  starts : AreStarts (length l.entries) (number_at l.entries) l.starts.items;
  inside : l.next ≤ length l.entries;
  lower : (q : ℕ) → q < l.next → number_at l.entries q < l.number;
}
