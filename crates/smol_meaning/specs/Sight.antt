-- Straight lines between two places, and the panels and walls on them.
use Rattle.std.specs.Prelude.{ℕ, ◌&&◌, ◌||◌, Bool, true, false, not, ℤ, pos, ◌-ℤ◌, int_lt, unsigned_abs}
use Rattle.std.specs.List.{list_any}
use Rattle.smol_geom.specs.declared.place.Place.{Place}
use Rattle.smol_geom.specs.Axes.{on_axis}
use Rattle.smol_geom.specs.Fraction.{Fraction}
use Rattle.smol_geom.specs.Line.{line_point}
use Rattle.smol_types.specs.declared.draft.Draft.{Draft}
use Rattle.smol_types.specs.declared.state.Mol.{Mol}
use Rattle.smol_meaning.specs.declared.sheet.Sheet.{Sheet}
use Rattle.smol_meaning.specs.declared.way.Response.{Response}
use Rattle.smol_meaning.specs.declared.way.Response.TheVariants.{Reflect, Absorb, Jump, Pass}
use Rattle.smol_meaning.specs.Plates.{Plate, is_on, response_of, sheet_axis, sheet_plane}
use Rattle.smol_meaning.specs.Seen.{plates_of}

-- whether the first number lies between the other two, and is neither of them
abbrev pub is_strictly_between : ℤ → ℤ → ℤ → Bool
is_strictly_between x a b = (int_lt a x && int_lt x b) || (int_lt b x && int_lt x a)

-- the part of the way from a start to an end at which a number between them is reached
abbrev pub part_at : ℤ → ℤ → ℤ → Fraction
part_at x start end = record { num = pos (unsigned_abs (x -ℤ start)); den = unsigned_abs (end -ℤ start) }

-- whether the straight line from a to b meets the sheet: its plane lies between the two, and the line's point there is on it.
-- No place is on a plane, since places are odd and planes even
unfoldable pub line_meets : Sheet → Place → Place → Bool
line_meets sheet a b =
    let start = on_axis a.0 (sheet_axis sheet) in
    let end = on_axis b.0 (sheet_axis sheet) in
    is_strictly_between (sheet_plane sheet) start end && is_on sheet (line_point a b (part_at (sheet_plane sheet) start end))

abbrev pub passes : Response → Bool
passes Reflect = false
passes (Absorb number) = false
passes (Jump by up) = false
passes Pass = true

-- whether the place is on the lesser side of the sheet
abbrev pub is_below : Sheet → Place → Bool
is_below sheet place = int_lt (on_axis place.0 (sheet_axis sheet)) (sheet_plane sheet)

-- whether a plate stands on the line from a to b and doesn't let through what comes straight from a as this species
abbrev pub bars : ℕ → Place → Place → Plate → Bool
bars species a b plate = line_meets plate.sheet a b && not (passes (response_of plate (is_below plate.sheet a) species))

-- whether some panel or wall doesn't let a molecule of this species through on its straight way from a to b
abbrev pub is_barred : Draft → ℕ → Place → Place → Bool
is_barred draft species a b = list_any (bars species a b) (plates_of draft)

-- whether two molecules are hidden from each other: one of them is barred from the other
unfoldable pub are_hidden : Draft → Mol → Mol → Bool
are_hidden draft a b = is_barred draft a.species a.place b.place || is_barred draft b.species b.place a.place
