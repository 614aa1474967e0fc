-- What cells keep: which things are in which boxes.
use Rattle.std.specs.Prelude.{◌≡◌, ℕ, ◌+◌, ◌-◌, ◌<◌, List, All, flat_map, length, map}
use Rattle.smol_cells.specs.declared.boxes.Boxes.{Boxes}
use Rattle.smol_cells.specs.declared.cells.Cells.{Cells}
use Rattle.smol_cells.specs.Numbers.{box_at}
use Rattle.smol_cells.specs.Placed.{counted, start_at}
use Rattle.smol_cells.specs.Ranges.{AreAmong, HasBox, HasNumber, boxes_at, first_on, last_on, numbers_on}
use Rattle.smol_cells.specs.Starts.{AreStarts, item_of, size_of}

-- how many items the cells have
abbrev pub size : Cells → ℕ
size cells = size_of cells.in_order cells.items.items cells.count

-- the index of the thing at a position
abbrev pub item : Cells → ℕ → ℕ
item cells position = item_of cells.in_order cells.items.items position

-- the cells are those of things with these ranges of boxes: each box has the things at its positions whose ranges have it, and no others
pub record AreOf (ranges : List Boxes) (cells : Cells) : Type 0 where
  pub count : cells.count ≡ length ranges
  pub among : All (AreAmong cells.grid.counts) ranges
  pub number : ℕ → ℕ
  pub starts : AreStarts (size cells) number cells.starts.items
  pub sound : (p : ℕ) → p < size cells → (item cells p < length ranges) × HasNumber cells.grid.counts (boxes_at ranges (item cells p)) (number p)
  pub complete : (index x y z : ℕ) → index < length ranges → HasBox (boxes_at ranges index) x y z
      → (p : ℕ) × (p < size cells) × (number p ≡ box_at cells.grid.counts x y z) × (item cells p ≡ index)

-- the things at positions, from one up to another
abbrev pub items_between : Cells → ℕ → ℕ → List ℕ
items_between cells start end = map (item cells) (counted start (end - start))

-- the things in those of the boxes that are in a row
abbrev pub items_in_row : Cells → Boxes → ℕ → ℕ → List ℕ
items_in_row cells boxes z y = items_between cells
    (start_at cells (box_at cells.grid.counts (first_on boxes 0) y z))
    (start_at cells (box_at cells.grid.counts (last_on boxes 0) y z + 1))

-- the things in those of the boxes that are in a layer
abbrev pub items_in_layer : Cells → Boxes → ℕ → List ℕ
items_in_layer cells boxes z = flat_map (items_in_row cells boxes z) (numbers_on boxes 1)

-- the things in the boxes, row by row
abbrev pub items_in : Cells → Boxes → List ℕ
items_in cells boxes = flat_map (items_in_layer cells boxes) (numbers_on boxes 2)
