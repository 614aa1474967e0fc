-- Calls that are counted, and that fail by their number.
use Rattle.std.specs.Prelude.{ℕ, ◌+◌, List, Contains}

-- the call that comes after these many is among the numbers, which count from 1
abbrev pub IsNumbered : List ℕ → ℕ → Type 0
IsNumbered numbers made = Contains numbers (made + 1)
