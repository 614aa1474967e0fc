-- Numbers over the molecules that a command means, as it prints them.
use Rattle.std.specs.Prelude.{ℕ, ◌/◌, ◌==◌, Bool, nat_eq, List, [], ◌∷◌, ◌++◌, ℤ, pos, count_by, if◌then◌else◌, map}
use Rattle.std.specs.List.{list_any, range_with_len}
use Rattle.smol_types.specs.declared.state.Mol.{Mol}
use Rattle.smol_stats.specs.Sums.{spread_of, squares_on, sum_on}
use Rattle.smol_stats.specs.Tally.{is_counted}

-- for each of so many species, whether it is one of these
abbrev pub marks_of : ℕ → List ℕ → List Bool
marks_of count who = map (λ species. list_any (nat_eq species) who) (range_with_len 0 count)

-- the numbers of `molmoments`: how many molecules count, then on each axis in use the sum of their coordinates in thousandths of a
-- length unit, and then on each the sum of the squares of these
abbrev pub moments_of : ℕ → List Bool → List Mol → List ℤ
moments_of dims who mols =
    pos (count_by (is_counted who) mols)
    ∷ map (λ axis. sum_on who (pos 0) axis mols) (range_with_len 0 dims)
    ++ map (λ axis. pos (squares_on who (pos 0) axis mols)) (range_with_len 0 dims)

-- the mean of so many numbers of this sum, rounded downwards, and 0 where there are none
abbrev pub mean_of : ℕ → ℕ → ℕ
mean_of count sum = if count == 0 then 0 else sum / count

-- the numbers of `meansqrdist`: how many molecules count, and the mean square of how far they are from a place
abbrev pub mean_square_of : ℕ → List Bool → List ℤ → List Mol → List ℤ
mean_square_of dims who at mols =
    pos (count_by (is_counted who) mols) ∷ pos (mean_of (count_by (is_counted who) mols) (spread_of who dims at mols)) ∷ []
