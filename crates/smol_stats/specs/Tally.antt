-- How many things are at each place of a row.
use Rattle.std.specs.Prelude.{◌≡◌, ℕ, ◌+◌, ◌<◌, Bool, false, ◌==◌, List, Option, None, Some, MatchOption, count_by, get_or, map, set, slice_index_or}
use Rattle.smol_cells.specs.Placed.{indexes}
use Rattle.smol_types.specs.declared.state.Mol.{Mol}

-- for each number below n, in order, how many of the things are at it
abbrev pub tally : {X : Type 0} → (ℕ → X → Bool) → ℕ → List X → List ℕ
tally is_at n things = map (λ k. count_by (is_at k) things) (indexes n)

-- the thing is at this number alone, which is below n, or at none
abbrev pub IsPlaced : {X : Type 0} → (ℕ → X → Bool) → ℕ → X → Option ℕ → Type 0
IsPlaced is_at n thing found = MatchOption found ((k : ℕ) → is_at k thing ≡ false) (λ at. (at < n) × ((k : ℕ) → is_at k thing ≡ (at == k)))

-- the counts with that at a position, if any, one higher
abbrev pub raised : List ℕ → Option ℕ → List ℕ
raised counts None = counts
raised counts (Some k) = set counts k (get_or counts k 0 + 1)

-- whether a molecule is of a species that counts
abbrev pub is_counted : List Bool → Mol → Bool
is_counted who mol = slice_index_or who mol.species false
