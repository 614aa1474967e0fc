-- Entries, which say what is in which box.
use Rattle.std.specs.Prelude.{◌≡◌, ℕ, suc, ◌<◌, List, [], ◌∷◌, ◌++◌, flat_map, length, map, slice_index_or}
use Rattle.smol_geom.specs.declared.place.Place.{Place}
use Rattle.smol_cells.specs.declared.boxes.Boxes.{Boxes}
use Rattle.smol_cells.specs.declared.entries.Entry.{Entry}
use Rattle.smol_cells.specs.declared.grid.Grid.{Grid}
use Rattle.smol_cells.specs.Numbers.{box_at}
use Rattle.smol_cells.specs.Placed.{box_of_place, place_at}
use Rattle.smol_cells.specs.Ranges.{numbers_on}

-- the entry at an index
abbrev pub entry_at : List Entry → ℕ → Entry
entry_at entries index = slice_index_or entries index (record { number = 0; index = 0 })

-- the box at a position of entries
abbrev pub number_at : List Entry → ℕ → ℕ
number_at entries position = (entry_at entries position).number

-- the entry has the box of one of the places
pub record IsOfPlace (grid : Grid) (places : List Place) (entry : Entry) : Type 0 where
  pub known : entry.index < length places
  pub number : entry.number ≡ box_of_place grid (place_at places entry.index)

-- the entries of a thing for those of its boxes that are in a row
abbrev pub row_entries : List ℕ → Boxes → ℕ → ℕ → ℕ → List Entry
row_entries counts boxes index z y = map (λ x. record { number = box_at counts x y z; index = index }) (numbers_on boxes 0)

-- the entries of a thing for those of its boxes that are in a layer
abbrev pub layer_entries : List ℕ → Boxes → ℕ → ℕ → List Entry
layer_entries counts boxes index z = flat_map (row_entries counts boxes index z) (numbers_on boxes 1)

-- the entries of a thing
abbrev pub boxes_entries : List ℕ → ℕ → Boxes → List Entry
boxes_entries counts index boxes = flat_map (layer_entries counts boxes index) (numbers_on boxes 2)

-- the entries of things, whose indexes begin with this one
abbrev pub entries_from : List ℕ → ℕ → List Boxes → List Entry
entries_from counts first [] = []
entries_from counts first (boxes ∷ ranges) = boxes_entries counts first boxes ++ entries_from counts (suc first) ranges
