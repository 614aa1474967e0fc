-- The molecules of a list of pairs, each with its pair and its side, and their order.
use Rattle.std.specs.Prelude.{ℕ, suc, ◌≡◌, ◌+◌, ◌/◌, ◌%◌, ◌==◌, ◌<◌, ◌≤◌, ◌⊎◌, if◌then◌else◌, List, [], ◌∷◌, length, slice_index_or}
use Rattle.smol_plan.specs.declared.entries.Entry.{Entry}
use Rattle.smol_plan.specs.declared.pair.Pair.{Pair}
use Rattle.smol_plan.specs.declared.pair.Side.{Side}
use Rattle.smol_plan.specs.declared.pair.Side.TheVariants.{Low, High}

-- two entries for each pair, from this place on
abbrev pub entries_from : ℕ → List Pair → List Entry
entries_from i [] = []
entries_from i (p ∷ pairs) =
    record { molecule = p.a; pair = i; side = Low } ∷ record { molecule = p.b; pair = i; side = High } ∷ entries_from (suc i) pairs

abbrev pub entry_at : List Entry → ℕ → Entry
entry_at entries k = slice_index_or entries k (record { molecule = 0; pair = 0; side = Low })

-- the one entry is of a lower molecule, or of the same molecule and no later pair
abbrev pub IsNoLater : Entry → Entry → Type 0
IsNoLater x y = (x.molecule < y.molecule) ⊎ ((x.molecule ≡ y.molecule) × (x.pair ≤ y.pair))

-- the entries rise by molecule, and those of a molecule by pair
abbrev pub IsRising : List Entry → Type 0
IsRising entries = (k : ℕ) → k + 1 < length entries → IsNoLater (entry_at entries k) (entry_at entries (k + 1))

-- the side of the entry at a place, where entries come two for each pair
abbrev pub side_at : ℕ → Side
side_at place = if place % 2 == 0 then Low else High

-- the entry of a number: the molecule stands above 2^64, and below it the entry's place before the sort
abbrev pub entry_of : ℕ → Entry
entry_of number =
    let place = number % 18446744073709551616 in
    record { molecule = number / 18446744073709551616; pair = place / 2; side = side_at place }
