-- Which pairs the gate of tests names.
use Rattle.std.specs.Prelude.{ℕ, ◌≡◌, ◌⊎◌}

-- the first pair, or the first one of slice 1
abbrev pub IsNamed : ℕ → Type 0
IsNamed pair = (pair ≡ 0) ⊎ (pair ≡ 64)
