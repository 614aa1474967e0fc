-- Sums of coordinates, and of squares of lengths.
use Rattle.std.specs.Prelude.{ℕ, ◌*◌, Bool, List, ℤ, pos, ◌+ℤ◌, ◌-ℤ◌, filter, fold, if◌then◌else◌, sum_by, unsigned_abs}
use Rattle.std.specs.Int.{int_div_euclid}
use Rattle.smol_cells.specs.Placed.{indexes}
use Rattle.smol_geom.specs.Axes.{on_axis}
use Rattle.smol_types.specs.declared.state.Mol.{Mol}
use Rattle.smol_stats.specs.Tally.{is_counted}

-- the coordinate in micros of a molecule that stands half a micro above it, at x ticks
abbrev pub micros_at : ℤ → ℤ
micros_at x = int_div_euclid (x -ℤ pos 1) (pos 2)

-- a length in micros in thousandths of a length unit, rounded downwards
abbrev pub thousandths : ℤ → ℤ
thousandths micros = int_div_euclid micros (pos 1000)

-- how far a molecule is above a coordinate in micros on an axis, in thousandths
abbrev pub above : ℤ → ℕ → Mol → ℤ
above from axis mol = thousandths (micros_at (on_axis mol.place.0 axis) -ℤ from)

-- that, and 0 for a molecule of a species that doesn't count
abbrev pub share_of : List Bool → ℤ → ℕ → Mol → ℤ
share_of who from axis mol = if is_counted who mol then above from axis mol else pos 0

-- the square of a whole number
abbrev pub square : ℤ → ℕ
square z = unsigned_abs z * unsigned_abs z

-- the sum of how far the molecules that count are above a coordinate on an axis
abbrev pub sum_on : List Bool → ℤ → ℕ → List Mol → ℤ
sum_on who from axis mols = fold (λ (sum : ℤ) (mol : Mol). sum +ℤ above from axis mol) (pos 0) (filter (is_counted who) mols)

-- the sum of the squares of that
abbrev pub squares_on : List Bool → ℤ → ℕ → List Mol → ℕ
squares_on who from axis mols = sum_by (λ (mol : Mol). square (above from axis mol)) (filter (is_counted who) mols)

-- the sum of the squares of how far the molecules that count are from a place, on each of the axes in use
abbrev pub spread_of : List Bool → ℕ → List ℤ → List Mol → ℕ
spread_of who dims at mols = sum_by (λ axis. squares_on who (on_axis at axis) axis mols) (indexes dims)
