-- Square roots.
use Rattle.std.specs.Prelude.{ℕ, zero, suc, ◌*◌, nat_le, if◌then◌else◌}

-- the greatest number up to a limit whose square is no more than v
abbrev pub root_up_to : ℕ → ℕ → ℕ
root_up_to v zero = 0
root_up_to v (suc r) = if nat_le (suc r * suc r) v then suc r else root_up_to v r

-- the square root, rounded down
unfoldable pub floor_root : ℕ → ℕ
floor_root v = root_up_to v v
