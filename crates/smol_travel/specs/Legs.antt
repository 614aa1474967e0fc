-- A leg of a way: a move by the fold that the panels and walls met so far leave it.
use Rattle.std.specs.Prelude.{ℕ, ◌^◌, Bool, ℤ, ◌+ℤ◌, ◌*ℤ◌, ◌≤ℤ◌, ◌<ℤ◌}
use Rattle.smol_geom.specs.declared.cuboid.Cuboid.{Cuboid}
use Rattle.smol_geom.specs.declared.moment.Moment.{Moment}
use Rattle.smol_geom.specs.Axes.{EachAxis, IsWithin, on_axis}
use Rattle.smol_geom.specs.Moments.{IsMoment}
use Rattle.smol_meaning.specs.declared.sheet.Sheet.{Sheet}
use Rattle.smol_meaning.specs.Folds.{IsSmallFold}
use Rattle.smol_meaning.specs.Plates.{is_met, plane_at}
use Rattle.smol_meaning.specs.Way.{end_on}
use Rattle.smol_travel.specs.declared.leg.Leg.{Leg}

-- a move from a place by a displacement that aren't too far, and a fold that isn't large
pub record IsLeg (leg : Leg) : Type 0 where
  pub from : IsWithin (2 ^ 57) leg.from.0
  pub by : IsWithin (2 ^ 34) leg.by.0
  pub fold : IsSmallFold leg.fold

-- whether a sheet is met at a moment
abbrev pub meets : Leg → Moment → Sheet → Bool
meets leg m sheet = is_met leg.from leg.by leg.fold m sheet

-- the whole number that the true coordinate on a moment's axis is at the moment
abbrev pub plane_on : Leg → Moment → ℤ
plane_on leg m = plane_at leg.from leg.by leg.fold m

-- the number is strictly between two
abbrev pub IsBetween : ℤ → ℤ → ℤ → Type 0
IsBetween low high z = (low <ℤ z) × (z <ℤ high)

-- the number is from a low to a high one, both included
abbrev pub IsFromTo : ℤ → ℤ → ℤ → Type 0
IsFromTo low high z = (low ≤ℤ z) × (z ≤ℤ high)

-- the coordinate on an axis that the fold carries the start of the move to
abbrev pub start_on : Leg → ℕ → ℤ
start_on leg axis = on_axis leg.fold.sign axis *ℤ on_axis leg.from.0 axis +ℤ on_axis leg.fold.shift axis

-- the coordinate is on an axis between those of the cuboid, or one of them
abbrev pub IsOnAxis : Cuboid → ℕ → ℤ → Type 0
IsOnAxis c axis z = IsFromTo (on_axis c.low axis) (on_axis c.high axis) z

-- the cuboid has where the fold carries the move's start and end to, and so all of the move; and at each moment the true coordinate
-- on the moment's axis is strictly within it
pub record IsSpan (leg : Leg) (c : Cuboid) : Type 0 where
  pub between : (m : Moment) → IsMoment leg.from leg.by m → IsBetween (on_axis c.low m.axis) (on_axis c.high m.axis) (plane_on leg m)
  pub start : EachAxis (λ axis. IsOnAxis c axis (start_on leg axis))
  pub end : EachAxis (λ axis. IsOnAxis c axis (end_on leg.from leg.by leg.fold axis))
  pub low : IsWithin (2 ^ 59) c.low
  pub high : IsWithin (2 ^ 59) c.high
