-- Numbers that stand on the three axes: axis 0 is x, axis 1 is y and axis 2 is z.
use Rattle.std.specs.Prelude.{◌≡◌, ℕ, ◌%◌, ◌≤◌, List, ℤ, pos, slice_index_or, unsigned_abs}

-- the number on an axis
abbrev pub on_axis : List ℤ → ℕ → ℤ
on_axis numbers axis = slice_index_or numbers axis (pos 0)

-- the fact holds on each of the three axes
abbrev pub EachAxis : (ℕ → Type 0) → Type 0
EachAxis P = P 0 × P 1 × P 2

-- the number on each axis is at most this large, whatever its sign
abbrev pub IsWithin : ℕ → List ℤ → Type 0
IsWithin most numbers = EachAxis (λ axis. unsigned_abs (on_axis numbers axis) ≤ most)

-- the number is odd
abbrev pub IsOdd : ℤ → Type 0
IsOdd z = unsigned_abs z % 2 ≡ 1

-- the number is even
abbrev pub IsEven : ℤ → Type 0
IsEven z = unsigned_abs z % 2 ≡ 0
