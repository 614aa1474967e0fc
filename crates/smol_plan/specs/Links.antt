-- Which pairs wait for which: the last earlier and the next later pair on a molecule.
use Rattle.std.specs.Prelude.{ℕ, zero, suc, ◌≡◌, ◌<◌, Bool, true, false, ◌||◌, ◌&&◌, ◌==◌, nat_lt, List, length, Option, Some, None, if◌then◌else◌}
use Rattle.std.specs.Option.{is_some}
use Rattle.smol_plan.specs.declared.pair.Pair.{Pair}
use Rattle.smol_plan.specs.declared.pair.Side.{Side}
use Rattle.smol_plan.specs.Pair.{has_molecule, pair_at, molecule_at}
use Rattle.smol_plan.specs.Matching.{fires}

-- whether the pair at a place has a molecule
abbrev pub has_at : List Pair → ℕ → ℕ → Bool
has_at pairs m i = has_molecule (pair_at pairs i) m

-- the pair i comes before j, has the molecule m, and no pair between has it
pub record IsLastBefore (pairs : List Pair) (m j i : ℕ) : Type 0 where
  pub earlier : i < j
  pub has : has_at pairs m i ≡ true
  pub none_between : (k : ℕ) → i < k → k < j → has_at pairs m k ≡ false

-- the pair k of the list comes after j, has the molecule m, and no pair between has it
pub record IsNextAfter (pairs : List Pair) (m j k : ℕ) : Type 0 where
  pub later : j < k
  pub in_list : k < length pairs
  pub has : has_at pairs m k ≡ true
  pub none_between : (i : ℕ) → j < i → i < k → has_at pairs m i ≡ false

-- whether some number below n passes a test
unfoldable pub any_below : (ℕ → Bool) → ℕ → Bool
any_below p zero = false
any_below p (suc n) = p n || any_below p n

-- the last number below n that passes a test
unfoldable pub last_below : (ℕ → Bool) → ℕ → Option ℕ
last_below p zero = None
last_below p (suc n) = if p n then Some n else last_below p n

-- the last earlier pair that has the molecule of this pair on this side
unfoldable pub source_of : List Pair → ℕ → Side → Option ℕ
source_of pairs j side =
    if nat_lt j (length pairs) then last_below (has_at pairs (molecule_at pairs j side)) j else None

-- whether an earlier pair has the molecule of this pair on this side: then the pair and the side are a link
abbrev pub is_link : List Pair → ℕ → Side → Bool
is_link pairs j side = is_some (source_of pairs j side)

-- whether it is this number
abbrev pub is_number : ℕ → Option ℕ → Bool
is_number j None = false
is_number j (Some i) = i == j

-- whether j is the source of the link of k on this side
abbrev pub comes_from : List Pair → ℕ → ℕ → Side → Bool
comes_from pairs j k side = is_number j (source_of pairs k side)

-- whether the link of k on a side comes from the pair j, by the molecule that j has on this side
abbrev pub comes_by : List Pair → ℕ → Side → ℕ → Side → Bool
comes_by pairs j side k t =
    comes_from pairs j k t && (molecule_at pairs k t == molecule_at pairs j side)

-- whether a pair before the place n that has the molecule m fires
abbrev pub is_taken_before : List Pair → ℕ → ℕ → Bool
is_taken_before pairs m n = any_below (λ i. fires pairs i && has_at pairs m i) n
