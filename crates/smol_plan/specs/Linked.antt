-- How the links of a plan are kept.
use Rattle.std.specs.Prelude.{ℕ, ◌≡◌, ◌+◌, ◌<◌, ◌≤◌, ◌⊎◌, false, List, [], ◌∷◌, length, slice_index_or, slice_set}
use Rattle.smol_plan.specs.declared.pair.Pair.{Pair}
use Rattle.smol_plan.specs.declared.pair.Side.{Side}
use Rattle.smol_plan.specs.declared.pair.Side.TheVariants.{Low, High}
use Rattle.smol_plan.specs.declared.plan.Links.{Links}
use Rattle.smol_plan.specs.declared.entries.Entry.{Entry}
use Rattle.smol_plan.specs.Pair.{molecule_at, IsOrdered}
use Rattle.smol_plan.specs.Links.{has_at, IsLastBefore, IsNextAfter}
use Rattle.smol_plan.specs.Entries.{entry_at}

-- the links of a pair that has none, at this place
abbrev pub unlinked : ℕ → Links
unlinked j = record { before_low = j; before_high = j; after_low = j; after_high = j }

abbrev pub links_at : List Links → ℕ → Links
links_at links j = slice_index_or links j (unlinked 0)

-- the earlier neighbor on a side
abbrev pub earlier_of : Links → Side → ℕ
earlier_of l Low = l.before_low
earlier_of l High = l.before_high

-- the later neighbor on a side
abbrev pub later_of : Links → Side → ℕ
later_of l Low = l.after_low
later_of l High = l.after_high

-- i is the last earlier pair with the molecule m, or j itself where there is none
abbrev pub IsEarlier : List Pair → ℕ → ℕ → ℕ → Type 0
IsEarlier pairs m j i =
    ((i ≡ j) × ((k : ℕ) → k < j → has_at pairs m k ≡ false)) ⊎ IsLastBefore pairs m j i

-- i is the next later pair with the molecule m, or j itself where there is none
abbrev pub IsLater : List Pair → ℕ → ℕ → ℕ → Type 0
IsLater pairs m j i =
    ((i ≡ j) × ((k : ℕ) → j < k → k < length pairs → has_at pairs m k ≡ false)) ⊎ IsNextAfter pairs m j i

-- each pair is kept with its neighbors
pub record IsLinked (pairs : List Pair) (links : List Links) : Type 0 where
  pub ordered : IsOrdered pairs
  pub one_each : length links ≡ length pairs
  pub earlier : (j : ℕ) (side : Side) → j < length pairs → IsEarlier pairs (molecule_at pairs j side) j (earlier_of (links_at links j) side)
  pub later : (j : ℕ) (side : Side) → j < length pairs → IsLater pairs (molecule_at pairs j side) j (later_of (links_at links j) side)

-- the links with the earlier neighbor on a side
abbrev pub with_earlier : Links → Side → ℕ → Links
with_earlier l Low i = record l { before_low = i }
with_earlier l High i = record l { before_high = i }

-- the links with the later neighbor on a side
abbrev pub with_later : Links → Side → ℕ → Links
with_later l Low i = record l { after_low = i }
with_later l High i = record l { after_high = i }

-- the links after the pair of the entry x is made the earlier neighbor of that of y, and y's the later neighbor of x's
abbrev pub joined : List Links → Entry → Entry → List Links
joined links x y =
    let one = slice_set links y.pair (with_earlier (links_at links y.pair) y.side x.pair) in
    slice_set one x.pair (with_later (links_at one x.pair) x.side y.pair)

-- the entry is of the pair j on the side
pub record IsOf (x : Entry) (j : ℕ) (side : Side) : Type 0 where
  pub of_pair : x.pair ≡ j
  pub on_side : x.side ≡ side

-- the place q and the next are among the first k entries, and of one molecule
pub record IsJoint (entries : List Entry) (k q : ℕ) : Type 0 where
  pub reached : q + 1 < k
  pub inside : q + 1 < length entries
  pub same : (entry_at entries q).molecule ≡ (entry_at entries (q + 1)).molecule

-- among the first k entries: where a joint has an entry of the pair j on the side, v is that of its other entry, else j
pub record IsJoined (entries : List Entry) (of : ℕ → Entry) (other : ℕ → Entry) (k j : ℕ) (side : Side) (v q : ℕ) : Type 0 where
  pub joint : IsJoint entries k q
  pub entry : IsOf (of q) j side
  pub is : v ≡ (other q).pair

pub record IsAlone (entries : List Entry) (of : ℕ → Entry) (k j : ℕ) (side : Side) (v : ℕ) : Type 0 where
  pub is : v ≡ j
  pub none : (q : ℕ) → IsJoint entries k q → IsOf (of q) j side → ⊥

abbrev pub SoFar : List Entry → (ℕ → Entry) → (ℕ → Entry) → ℕ → ℕ → Side → ℕ → Type 0
SoFar entries of other k j side v =
    IsAlone entries of k j side v ⊎ ((q : ℕ) × IsJoined entries of other k j side v q)

-- the links hold what the first k entries say
pub record LinkedUpTo (entries : List Entry) (links : List Links) (k : ℕ) : Type 0 where
  pub earlier : (j : ℕ) (side : Side) → j < length links
      → SoFar entries (λ q. entry_at entries (q + 1)) (entry_at entries) k j side (earlier_of (links_at links j) side)
  pub later : (j : ℕ) (side : Side) → j < length links
      → SoFar entries (entry_at entries) (λ q. entry_at entries (q + 1)) k j side (later_of (links_at links j) side)

-- no pair has a neighbor
abbrev pub AreUnlinked : List Links → Type 0
AreUnlinked links = (j : ℕ) → j < length links → links_at links j ≡ unlinked j

-- each entry is of a pair that has a place in the links
abbrev pub AreInside : List Entry → ℕ → Type 0
AreInside entries n = (q : ℕ) → q < length entries → (entry_at entries q).pair < n
