-- How far two places are apart.
use Rattle.std.specs.Prelude.{ℕ, ◌+◌, ◌*◌, ◌-ℤ◌, unsigned_abs}
use Rattle.smol_geom.specs.declared.place.Place.{Place}
use Rattle.smol_geom.specs.Axes.{on_axis}

-- how far the two places are apart on an axis, in ticks
abbrev pub gap : Place → Place → ℕ → ℕ
gap a b axis = unsigned_abs (on_axis a.0 axis -ℤ on_axis b.0 axis)

-- the square of the gap on an axis
abbrev pub square_of_gap : Place → Place → ℕ → ℕ
square_of_gap a b axis = gap a b axis * gap a b axis

-- the square of the distance, in square ticks
abbrev pub square_of_distance : Place → Place → ℕ
square_of_distance a b = square_of_gap a b 0 + square_of_gap a b 1 + square_of_gap a b 2
