-- Closed rectangles that lie across one axis.
use Rattle.std.specs.Prelude.{◌≡◌, ℕ, ◌<◌, ℤ, ◌≤ℤ◌}
use Rattle.smol_geom.specs.declared.rect.Rect.{Rect}
use Rattle.smol_geom.specs.Axes.{on_axis, EachAxis}
use Rattle.smol_geom.specs.Fraction.{Fraction, whole, ◌≤ℚ◌}

-- the rectangle's plane: its one coordinate on the axis that it lies across
abbrev pub plane_of : Rect → ℤ
plane_of rect = on_axis rect.low rect.axis

-- the box is a rectangle across its axis: one plane there, and no low end above its high end
pub record IsRect (rect : Rect) : Type 0 where
  pub axis : rect.axis < 3
  pub flat : on_axis rect.low rect.axis ≡ on_axis rect.high rect.axis
  pub ordered : EachAxis (λ axis. on_axis rect.low axis ≤ℤ on_axis rect.high axis)

-- on the axis the coordinate is from the low to the high end of the rectangle, the ends included
pub record IsInRange (rect : Rect) (axis : ℕ) (coordinate : Fraction) : Type 0 where
  pub low : whole (on_axis rect.low axis) ≤ℚ coordinate
  pub high : coordinate ≤ℚ whole (on_axis rect.high axis)

-- the closed rectangle holds the point, which has a coordinate on each axis: edges and corners belong to it
abbrev pub HoldsPoint : Rect → (ℕ → Fraction) → Type 0
HoldsPoint rect point = EachAxis (λ axis. IsInRange rect axis (point axis))
