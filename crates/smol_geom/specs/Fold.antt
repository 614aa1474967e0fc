-- Folds: how mirrors and translations carry a straight move to where the molecule truly is.
use Rattle.std.specs.Prelude.{◌≡◌, ℕ, ◌⊎◌, ℤ, pos, negsuc}
use Rattle.smol_geom.specs.declared.place.Place.{Place}
use Rattle.smol_geom.specs.declared.place.Step3.{Step3}
use Rattle.smol_geom.specs.declared.fold.Fold.{Fold}
use Rattle.smol_geom.specs.Axes.{on_axis, EachAxis}
use Rattle.smol_geom.specs.Fraction.{Fraction, whole, ◌+ℚ◌, ◌*ℚ◌}
use Rattle.smol_geom.specs.Line.{move_point}

-- the number is 1 or -1
abbrev pub IsSign : ℤ → Type 0
IsSign z = (z ≡ pos 1) ⊎ (z ≡ negsuc 0)

-- the fold keeps or turns the direction of each axis
abbrev pub IsFold : Fold → Type 0
IsFold f = EachAxis (λ axis. IsSign (on_axis f.sign axis))

-- the true point after the fraction t of the move: the fold's sign times the coordinate, and the fold's shift added
abbrev pub true_point : Fold → Place → Step3 → Fraction → ℕ → Fraction
true_point f from by t axis = whole (on_axis f.sign axis) *ℚ move_point from.0 by.0 t axis +ℚ whole (on_axis f.shift axis)
