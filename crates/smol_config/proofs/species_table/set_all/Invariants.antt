use Rattle.std.proofs.Common.{◌≡◌, ◌&&◌, ℕ, if◌then◌else◌, nat_le, nat_lt, slice_index_or}
use Rattle.smol_config.specs.Motion.{still}
use Rattle.smol_config.proofs.species_table.set_all.Given as goal

-- the species of the numbers so far move so, and the others as before
abbrev pub invariant-loop-i : goal.invariant-loop-i
invariant-loop-i l =
    (number : ℕ) → slice_index_or l.motions number still ≡ (if nat_le l.fn.chosen.first number && nat_lt number l.i then l.motion else slice_index_or l.initial.motions number still)
