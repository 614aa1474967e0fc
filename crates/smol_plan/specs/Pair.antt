-- What a pair has: two molecules, and a place for each.
use Rattle.std.specs.Prelude.{ℕ, ◌<◌, Bool, true, false, ◌||◌, ◌==◌, List, All, slice_index_or}
use Rattle.smol_plan.specs.declared.pair.Pair.{Pair}
use Rattle.smol_plan.specs.declared.pair.Side.{Side}
use Rattle.smol_plan.specs.declared.pair.Side.TheVariants.{Low, High}

-- the molecule that a pair has on a side
abbrev pub molecule_of : Pair → Side → ℕ
molecule_of p Low = p.a
molecule_of p High = p.b

-- whether a pair has a molecule, on either side
abbrev pub has_molecule : Pair → ℕ → Bool
has_molecule p m = (p.a == m) || (p.b == m)

-- whether two pairs have a molecule in common
abbrev pub shares_molecule : Pair → Pair → Bool
shares_molecule p q = has_molecule p q.a || has_molecule p q.b

-- whether two sides are one
abbrev pub is_side : Side → Side → Bool
is_side Low Low = true
is_side Low High = false
is_side High Low = false
is_side High High = true

-- what stands past the end of a list of pairs
abbrev pub no_pair : Pair
no_pair = record { a = 0; b = 0; reaction = 0 }

-- the pair at a place of the list
abbrev pub pair_at : List Pair → ℕ → Pair
pair_at pairs j = slice_index_or pairs j no_pair

-- the molecule that the pair at a place has on a side
abbrev pub molecule_at : List Pair → ℕ → Side → ℕ
molecule_at pairs j side = molecule_of (pair_at pairs j) side

-- in each pair the molecule a is below the molecule b
abbrev pub IsOrdered : List Pair → Type 0
IsOrdered pairs = All (λ p. p.a < p.b) pairs
