-- The search of a step.
use Rattle.std.specs.Prelude.{◌≡◌, ℕ, ◌<◌, ◌≤◌, ◌≤ℤ◌, List, All, Contains, length, map, slice_index}
use Rattle.smol_geom.specs.declared.place.Place.{Place}
use Rattle.smol_geom.specs.declared.cuboid.Cuboid.{Cuboid}
use Rattle.smol_geom.specs.Axes.{EachAxis, on_axis}
use Rattle.smol_meaning.specs.Encounters.{encounters_of}
use Rattle.smol_cells.specs.declared.boxes.Boxes.{Boxes}
use Rattle.smol_cells.specs.declared.grid.Grid.{Grid}
use Rattle.smol_cells.specs.Numbers.{count_on}
use Rattle.smol_cells.specs.Numbered.{number_on}
use Rattle.smol_pairs.specs.declared.encounter.Encounter.{Encounter as Ranks}
use Rattle.smol_pairs.specs.declared.search.Search.{Search}
use Rattle.smol_pairs.specs.declared.seeker.Seeker.{Seeker}
use Rattle.smol_pairs.specs.Encounters.{ranks_of}
use Rattle.smol_pairs.specs.Met.{HaveMet, IsGrown}
use Rattle.smol_pairs.specs.Seekers.{IsSeeker, seeker_at}

-- all encounters of the step
abbrev pub all_of : Search → List Ranks
all_of search = map ranks_of (encounters_of search.panels.now search.seed search.k search.mols.now)

abbrev pub IsSeekerIn : Search → Seeker → Type 0
IsSeekerIn search seeker = IsSeeker search.panels.now search.seed search.k search.mols.now seeker

-- the place of the seeker at a place in box order
abbrev pub place_in : Search → ℕ → Place
place_in search q = (seeker_at search.seekers.now q).place

abbrev pub IsGrownIn : Search → List Ranks → List Ranks → Type 0
IsGrownIn search old new = IsGrown (all_of search) old new

-- the molecules at two ranks have met
abbrev pub HaveMetIn : Search → List Ranks → ℕ → ℕ → Type 0
HaveMetIn search found i j = HaveMet search.panels.now search.seed search.k search.mols.now found i j

-- the seekers at two places in box order have met
abbrev pub HaveMetAt : Search → List Ranks → ℕ → ℕ → Type 0
HaveMetAt search found p q = HaveMetIn search found (seeker_at search.seekers.now p).rank (seeker_at search.seekers.now q).rank

-- the seekers at the places from one up to another have met all that are behind them
abbrev pub HaveMetFrom : Search → List Ranks → ℕ → ℕ → Type 0
HaveMetFrom search found start end =
    (p q : ℕ) → start ≤ p → p < end → p < q → q < length search.seekers.now → HaveMetAt search found p q

-- these encounters are of the step, and among them are those of the seekers at the places from one up to another with all behind them
pub record AreFound (search : Search) (start end : ℕ) (keys : List Ranks) : Type 0 where
  pub sound : All (Contains (all_of search)) keys
  pub met : HaveMetFrom search keys start end

-- on an axis, the first and the last number of boxes side by side
abbrev pub first_on : Boxes → ℕ → ℕ
first_on boxes axis = slice_index boxes.first axis

abbrev pub last_on : Boxes → ℕ → ℕ
last_on boxes axis = slice_index boxes.last axis

-- the boxes are of the grid, and there is one
pub record AreBoxesIn (grid : Grid) (boxes : Boxes) : Type 0 where
  pub ordered : EachAxis (λ axis. first_on boxes axis ≤ last_on boxes axis)
  pub inside : EachAxis (λ axis. last_on boxes axis < count_on grid.counts axis)

-- the place is in the closed cuboid
abbrev pub IsIn : Cuboid → Place → Type 0
IsIn c place = EachAxis (λ axis. (on_axis c.low axis ≤ℤ on_axis place.0 axis) × (on_axis place.0 axis ≤ℤ on_axis c.high axis))

-- the box number on an axis of the seeker at a place in box order
abbrev pub number_in : Search → ℕ → ℕ → ℕ
number_in search q axis = number_on search.cells.now.grid (place_in search q).0 axis

-- on an axis, the box of the seeker at a place is one of these
abbrev pub IsOnAxis : Search → Boxes → ℕ → ℕ → Type 0
IsOnAxis search boxes q axis = (first_on boxes axis ≤ number_in search q axis) × (number_in search q axis ≤ last_on boxes axis)

-- the seeker at a place is in one of these boxes in a layer
pub record IsInLayer (search : Search) (boxes : Boxes) (layer q : ℕ) : Type 0 where
  pub z : number_in search q 2 ≡ layer
  pub y : IsOnAxis search boxes q 1
  pub x : IsOnAxis search boxes q 0

-- and in one of these boxes
abbrev pub IsInBoxes : Search → Boxes → ℕ → Type 0
IsInBoxes search boxes q = EachAxis (λ axis. IsOnAxis search boxes q axis)
