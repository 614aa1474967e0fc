-- Where panels and walls stand, one list for both.
use Rattle.std.specs.Prelude.{◌≡◌, ℕ, ◌<◌, ◌≤◌, true, false, Contains, List, Some, length, map, slice_get, ◌≤ℤ◌}
use Rattle.smol_geom.specs.declared.cuboid.Cuboid.{Cuboid}
use Rattle.smol_geom.specs.declared.place.Place.{Place}
use Rattle.smol_geom.specs.declared.rect.Rect.{Rect}
use Rattle.smol_geom.specs.Axes.{EachAxis, on_axis}
use Rattle.smol_types.specs.declared.draft.Draft.{Draft}
use Rattle.smol_types.specs.declared.surface.Panel.{Panel}
use Rattle.smol_cells.specs.Meeting.{MeetsBetween}
use Rattle.smol_meaning.specs.declared.sheet.Sheet.{Sheet}
use Rattle.smol_meaning.specs.declared.sheet.Sheet.TheVariants.{Rectangle, Plane}
use Rattle.smol_meaning.specs.Plates.{Plate, sheet_axis, sheet_plane}
use Rattle.smol_meaning.specs.Seen.{plates_of}
use Rattle.smol_meaning.specs.Sight.{bars}
use Rattle.smol_sheets.specs.declared.sheet.Stand.{Stand}

-- where a plate stands
abbrev pub sheet_of : Plate → Sheet
sheet_of plate = plate.sheet

-- where the panels and walls of a configuration stand, in the order of their numbers
abbrev pub sheets_of : Draft → List Sheet
sheets_of draft = map sheet_of (plates_of draft)

-- across which axis a sheet stands, and where
abbrev pub stand_of : Sheet → Stand
stand_of sheet = record { axis = sheet_axis sheet; plane = sheet_plane sheet }

-- where a panel stands
abbrev pub rect_of : Panel → Rect
rect_of panel = panel.rect

-- the closed cuboid meets the rectangle, where the sheet is one. A wall may be anywhere
abbrev pub IsReached : Cuboid → Sheet → Type 0
IsReached c (Rectangle rect) = MeetsBetween c rect.low rect.high
IsReached c (Plane axis plane) = Unit {0}

-- the cuboid has both places
abbrev pub HasBoth : Cuboid → Place → Place → Type 0
HasBoth c a b = EachAxis (λ axis.
    ((on_axis c.low axis ≤ℤ on_axis a.0 axis) × (on_axis a.0 axis ≤ℤ on_axis c.high axis))
    × ((on_axis c.low axis ≤ℤ on_axis b.0 axis) × (on_axis b.0 axis ≤ℤ on_axis c.high axis)))

-- none of the panels and walls from a number on and before another bars
abbrev pub NoneBars : Draft → ℕ → Place → Place → ℕ → ℕ → Type 0
NoneBars draft species a b from to = (n : ℕ) (plate : Plate) → from ≤ n → n < to → slice_get (plates_of draft) n ≡ Some plate
    → bars species a b plate ≡ false

-- each panel that bars is among these
abbrev pub AreAmong : Draft → ℕ → Place → Place → List ℕ → Type 0
AreAmong draft species a b left = (n : ℕ) (plate : Plate) → n < length draft.panels → slice_get (plates_of draft) n ≡ Some plate
    → bars species a b plate ≡ true → Contains left n
