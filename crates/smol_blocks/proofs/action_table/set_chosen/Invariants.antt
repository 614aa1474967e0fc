use Rattle.std.proofs.Common.{◌≡◌, ◌&&◌, ℕ, if◌then◌else◌, nat_le, nat_lt, slice_index_or}
use Rattle.smol_blocks.proofs.action_table.set_chosen.Given as goal

-- the chosen entries so far have the value, and the others are as they were
abbrev pub invariant-loop-i : goal.invariant-loop-i
invariant-loop-i g l =
    (number : ℕ) (other : _) → slice_index_or l.entries number other ≡ (if nat_le l.fn.chosen.first number && nat_lt number l.i then l.value else slice_index_or l.initial.entries number other)
