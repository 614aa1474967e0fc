-- What meets boxes and cuboids.
use Rattle.std.specs.Prelude.{ℕ, ◌≤◌, [], List, ℤ, ◌≤ℤ◌, slice_index_or}
use Rattle.smol_geom.specs.declared.cuboid.Cuboid.{Cuboid}
use Rattle.smol_geom.specs.declared.rect.Rect.{Rect}
use Rattle.smol_geom.specs.Axes.{EachAxis, on_axis}
use Rattle.smol_cells.specs.declared.boxes.Boxes.{Boxes}
use Rattle.smol_cells.specs.Ranges.{first_on, last_on}

-- on every axis neither of two ranges of boxes ends before the other begins
abbrev pub ShareNumbers : Boxes → Boxes → Type 0
ShareNumbers a b = EachAxis (λ axis. (first_on a axis ≤ last_on b axis) × (first_on b axis ≤ last_on a axis))

-- the closed cuboid meets what lies between low and high coordinates, the ends included
abbrev pub MeetsBetween : Cuboid → List ℤ → List ℤ → Type 0
MeetsBetween c low high = EachAxis (λ axis. (on_axis low axis ≤ℤ on_axis c.high axis) × (on_axis c.low axis ≤ℤ on_axis high axis))

-- the rectangle at an index
abbrev pub rect_at : List Rect → ℕ → Rect
rect_at rects index = slice_index_or rects index (record { axis = 0; low = []; high = [] })
