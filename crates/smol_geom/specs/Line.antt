-- Straight lines, whose points are reached at a fraction of the way.
use Rattle.std.specs.Prelude.{ℕ, List, ◌⊎◌, ℤ, pos, ◌-ℤ◌, ◌<ℤ◌}
use Rattle.smol_geom.specs.declared.place.Place.{Place}
use Rattle.smol_geom.specs.declared.rect.Rect.{Rect}
use Rattle.smol_geom.specs.Axes.{on_axis}
use Rattle.smol_geom.specs.Fraction.{Fraction, IsNumber, whole, ◌+ℚ◌, ◌*ℚ◌, ◌≤ℚ◌}
use Rattle.smol_geom.specs.Rect.{HoldsPoint}

-- where one gets from a start after the fraction t of a way: start + t * by
abbrev pub part_way : ℤ → ℤ → Fraction → Fraction
part_way start by t = whole start +ℚ t *ℚ whole by

-- the point of the move from these coordinates by this displacement, after the fraction t of it
abbrev pub move_point : List ℤ → List ℤ → Fraction → ℕ → Fraction
move_point from by t axis = part_way (on_axis from axis) (on_axis by axis) t

-- the point of the straight line from a to b, after the fraction t of it: a + t * (b - a)
abbrev pub line_point : Place → Place → Fraction → ℕ → Fraction
line_point a b t axis = part_way (on_axis a.0 axis) (on_axis b.0 axis -ℤ on_axis a.0 axis) t

-- the straight line from a to b meets the closed rectangle: some fraction t from 0 to 1 of the line is a point of the rectangle
abbrev pub LineMeets : Rect → Place → Place → Type 0
LineMeets rect a b =
    (t : Fraction) × IsNumber t × (whole (pos 0) ≤ℚ t) × (t ≤ℚ whole (pos 1)) × HoldsPoint rect (line_point a b t)

-- the first number lies between the other two, and is neither of them
abbrev pub IsStrictlyBetween : ℤ → ℤ → ℤ → Type 0
IsStrictlyBetween x a b = ((a <ℤ x) × (x <ℤ b)) ⊎ ((b <ℤ x) × (x <ℤ a))
