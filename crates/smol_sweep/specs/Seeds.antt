-- The seeds of runs that are made one after another, and what these give.
use Rattle.std.specs.Prelude.{ℕ, ◌+◌, ◌%◌, ◌^◌, List, [], ◌∷◌}

-- the seed of the run of this number, where the first run, which is number 0, has the seed `first`: behind 2^64 - 1 comes 0
abbrev pub seed_at : ℕ → ℕ → ℕ
seed_at first number = (first + number) % 2 ^ 64

-- each of these is what the run of its seed may give, in the order of their numbers, of which the first is `number`
abbrev pub AreGiven : {Out : Type 0} → (ℕ → Out → Type 0) → ℕ → ℕ → List Out → Type 0
AreGiven gives first number [] = Unit {0}
AreGiven gives first number (out ∷ outs) = gives (seed_at first number) out × AreGiven gives first (number + 1) outs
