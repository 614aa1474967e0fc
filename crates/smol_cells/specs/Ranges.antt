-- Ranges of boxes: which boxes they have, and whether they meet.
use Rattle.std.specs.Prelude.{◌≡◌, ℕ, ◌+◌, ◌-◌, ◌<◌, ◌≤◌, Bool, ◌&&◌, nat_le, [], List, filter, length, slice_index_or}
use Rattle.smol_geom.specs.Axes.{EachAxis}
use Rattle.smol_cells.specs.declared.boxes.Boxes.{Boxes}
use Rattle.smol_cells.specs.Numbers.{box_at, count_on}
use Rattle.smol_cells.specs.Placed.{counted, indexes}

-- the first number of the boxes on an axis
abbrev pub first_on : Boxes → ℕ → ℕ
first_on boxes axis = slice_index_or boxes.first axis 0

-- the last number of the boxes on an axis
abbrev pub last_on : Boxes → ℕ → ℕ
last_on boxes axis = slice_index_or boxes.last axis 0

-- there are such boxes on each axis, and they are among as many as there are
pub record AreAmong (counts : List ℕ) (boxes : Boxes) : Type 0 where
  pub ordered : EachAxis (λ axis. first_on boxes axis ≤ last_on boxes axis)
  pub inside : EachAxis (λ axis. last_on boxes axis < count_on counts axis)

-- the number is one of the boxes on an axis
abbrev pub IsOn : Boxes → ℕ → ℕ → Type 0
IsOn boxes axis number = (first_on boxes axis ≤ number) × (number ≤ last_on boxes axis)

-- the boxes have the box with these numbers
abbrev pub HasBox : Boxes → ℕ → ℕ → ℕ → Type 0
HasBox boxes x y z = IsOn boxes 0 x × IsOn boxes 1 y × IsOn boxes 2 z

-- the number among all boxes is that of one of the boxes
pub record HasNumber (counts : List ℕ) (boxes : Boxes) (number : ℕ) : Type 0 where
  pub x : ℕ
  pub y : ℕ
  pub z : ℕ
  pub has : HasBox boxes x y z
  pub is : number ≡ box_at counts x y z

-- whether two ranges of boxes have a number in common on an axis
abbrev pub meet_on : Boxes → Boxes → ℕ → Bool
meet_on a b axis = nat_le (first_on a axis) (last_on b axis) && nat_le (first_on b axis) (last_on a axis)

-- whether two ranges of boxes have a number in common on every axis
abbrev pub are_meeting : Boxes → Boxes → Bool
are_meeting a b = meet_on a b 0 && (meet_on a b 1 && meet_on a b 2)

-- the boxes of the thing at an index
abbrev pub boxes_at : List Boxes → ℕ → Boxes
boxes_at ranges index = slice_index_or ranges index (record { first = []; last = [] })

-- the indexes of the things whose boxes meet these, in order
abbrev pub near_of : List Boxes → Boxes → List ℕ
near_of ranges boxes = filter (λ index. are_meeting (boxes_at ranges index) boxes) (indexes (length ranges))

-- the numbers of the boxes on an axis, in order
abbrev pub numbers_on : Boxes → ℕ → List ℕ
numbers_on boxes axis = counted (first_on boxes axis) (last_on boxes axis + 1 - first_on boxes axis)
