-- How many boxes of an edge bounds have, and the edge that gives few.
use Rattle.std.specs.Prelude.{◌≡◌, ℕ, ◌+◌, ◌*◌, ◌/◌, ◌^◌, ◌<◌, ◌≤◌, ◌-ℤ◌, unsigned_abs}
use Rattle.smol_geom.specs.declared.cuboid.Cuboid.{Cuboid}
use Rattle.smol_geom.specs.Axes.{on_axis}

-- how long the bounds are on an axis
abbrev pub extent : Cuboid → ℕ → ℕ
extent bounds axis = unsigned_abs (on_axis bounds.high axis -ℤ on_axis bounds.low axis)

-- how many boxes of an edge the bounds have on an axis: the last one has their high end
abbrev pub boxes_on : Cuboid → ℕ → ℕ → ℕ
boxes_on bounds edge axis = extent bounds axis / edge + 1

-- how many boxes of an edge the bounds have
abbrev pub boxes_in : Cuboid → ℕ → ℕ
boxes_in bounds edge = boxes_on bounds edge 2 * boxes_on bounds edge 1 * boxes_on bounds edge 0

-- how many boxes a grid may have: 2^20
abbrev pub most_boxes : ℕ
most_boxes = 1048576

-- the edge is the least of the wanted one, its double, the double of that and so on that gives no more boxes than there may be
pub record IsLeastDouble (bounds : Cuboid) (wanted edge : ℕ) : Type 0 where
  pub times : ℕ
  pub is : edge ≡ wanted * 2 ^ times
  pub few : boxes_in bounds edge ≤ most_boxes
  pub least : (fewer : ℕ) → fewer < times → most_boxes < boxes_in bounds (wanted * 2 ^ fewer)
