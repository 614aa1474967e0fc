-- Box numbers in a grid.
use Rattle.std.specs.Prelude.{◌≡◌, ℕ, ◌-◌, ◌^◌, [], ◌∷◌, List, ℤ, ◌≤ℤ◌}
use Rattle.smol_geom.specs.declared.cuboid.Cuboid.{Cuboid}
use Rattle.smol_geom.specs.declared.place.Place.{Place}
use Rattle.smol_geom.specs.declared.rect.Rect.{Rect}
use Rattle.smol_geom.specs.Axes.{EachAxis, IsWithin, on_axis}
use Rattle.smol_cells.specs.declared.boxes.Boxes.{Boxes}
use Rattle.smol_cells.specs.declared.grid.Grid.{Grid}
use Rattle.smol_cells.specs.Bounds.{IsLeastDouble, boxes_on}
use Rattle.smol_cells.specs.Numbers.{box_on, count_on}

-- the grid of bounds: from their low end on, with the least double of the wanted edge, and so many boxes on each axis
pub record IsGridOf (bounds : Cuboid) (wanted : ℕ) (grid : Grid) : Type 0 where
  pub low : grid.low ≡ bounds.low
  pub edge : IsLeastDouble bounds wanted grid.edge
  pub counts : EachAxis (λ axis. count_on grid.counts axis ≡ boxes_on bounds grid.edge axis)

-- the number of the box of a coordinate on an axis
abbrev pub box_number : Grid → ℕ → ℤ → ℕ
box_number grid axis x = box_on (on_axis grid.low axis) grid.edge (count_on grid.counts axis - 1) x

-- the box number on an axis of what has a coordinate on each
abbrev pub number_on : Grid → List ℤ → ℕ → ℕ
number_on grid numbers axis = box_number grid axis (on_axis numbers axis)

-- the box numbers of coordinates on the three axes
abbrev pub numbers_of : Grid → List ℤ → List ℕ
numbers_of grid numbers = number_on grid numbers 0 ∷ number_on grid numbers 1 ∷ number_on grid numbers 2 ∷ []

-- the boxes from those of low coordinates to those of high ones
abbrev pub boxes_between : Grid → List ℤ → List ℤ → Boxes
boxes_between grid low high = record { first = numbers_of grid low; last = numbers_of grid high }

-- the cuboid is not empty
abbrev pub IsFilled : Cuboid → Type 0
IsFilled c = EachAxis (λ axis. on_axis c.low axis ≤ℤ on_axis c.high axis)

-- the boxes that have a point of a cuboid
abbrev pub boxes_of_cuboid : Grid → Cuboid → Boxes
boxes_of_cuboid grid c = boxes_between grid c.low c.high

-- the box of a place
abbrev pub boxes_of_place : Grid → Place → Boxes
boxes_of_place grid place = boxes_between grid place.0 place.0

-- the boxes that have a point of a rectangle
abbrev pub boxes_of_rect : Grid → Rect → Boxes
boxes_of_rect grid rect = boxes_between grid rect.low rect.high

-- the rectangle has no low end above its high end, and is of limited size
pub record IsPlain (rect : Rect) : Type 0 where
  pub low : IsWithin (2 ^ 58) rect.low
  pub high : IsWithin (2 ^ 58) rect.high
  pub ordered : EachAxis (λ axis. on_axis rect.low axis ≤ℤ on_axis rect.high axis)
