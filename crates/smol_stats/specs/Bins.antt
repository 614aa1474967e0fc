-- Molecules in the bins of a range.
use Rattle.std.specs.Prelude.{ℕ, ◌*◌, ◌/◌, Bool, ◌&&◌, ◌==◌, List, ℤ, ◌-ℤ◌, int_lt, unsigned_abs}
use Rattle.smol_geom.specs.Axes.{on_axis}
use Rattle.smol_types.specs.declared.state.Mol.{Mol}
use Rattle.smol_stats.specs.Tally.{is_counted, tally}

-- the coordinate is strictly between two ends
abbrev pub is_between : ℤ → ℤ → ℤ → Bool
is_between low high x = int_lt low x && int_lt x high

-- the number of the bin of a coordinate between two ends, where there are n bins: n times its part of the way, rounded downwards
abbrev pub bin_number : ℤ → ℤ → ℕ → ℤ → ℕ
bin_number low high n x = unsigned_abs (x -ℤ low) * n / unsigned_abs (high -ℤ low)

-- whether a coordinate is in a bin
abbrev pub is_in_bin : ℤ → ℤ → ℕ → ℕ → ℤ → Bool
is_in_bin low high n bin x = is_between low high x && (bin_number low high n x == bin)

-- whether a molecule is of a species that counts, and its coordinate on an axis is in a bin
abbrev pub is_mol_in_bin : List Bool → ℕ → ℤ → ℤ → ℕ → ℕ → Mol → Bool
is_mol_in_bin who axis low high n bin mol = is_counted who mol && is_in_bin low high n bin (on_axis mol.place.0 axis)

-- how many of the molecules are in each of n bins
abbrev pub bins_of : List Bool → ℕ → ℤ → ℤ → ℕ → List Mol → List ℕ
bins_of who axis low high n mols = tally (is_mol_in_bin who axis low high n) n mols
