-- Encounters as numbers in the order of the candidates.
use Rattle.std.specs.Prelude.{ℕ, ◌+◌, ◌*◌, ◌/◌, ◌%◌, ◌<◌, List, All, Contains}
use Rattle.smol_pairs.specs.declared.encounter.Encounter.{Encounter}

-- the ranks of both molecules and the reaction in one number: 20 bits for the second rank, 10 bits for the reaction
abbrev pub key_at : ℕ → ℕ → ℕ → ℕ
key_at a b reaction = (a * 1048576 + b) * 1024 + reaction

abbrev pub key_of : Encounter → ℕ
key_of e = key_at e.rank_a e.rank_b e.reaction

-- the encounter of a number
abbrev pub ranks_at : ℕ → Encounter
ranks_at number = record { rank_a = number / 1073741824; rank_b = number / 1024 % 1048576; reaction = number % 1024 }

-- the ranks and the reaction have room in a number
pub record IsOfKey (e : Encounter) : Type 0 where
  pub a : e.rank_a < 1048576
  pub b : e.rank_b < 1048576
  pub reaction : e.reaction < 1024

-- two lists have the same members
pub record HaveSame {X : Type 0} (xs ys : List X) : Type 0 where
  pub kept : All (Contains ys) xs
  pub old : All (Contains xs) ys
