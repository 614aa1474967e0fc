-- Panels and places between which straight lines are drawn.
use Rattle.std.specs.Prelude.{ℕ, ◌^◌}
use Rattle.smol_geom.specs.declared.place.Place.{Place}
use Rattle.smol_geom.specs.declared.rect.Rect.{Rect}
use Rattle.smol_geom.specs.Axes.{on_axis, EachAxis, IsEven, IsOdd, IsWithin}
use Rattle.smol_geom.specs.Rect.{IsRect, plane_of}

-- where molecules and points may stand: odd on each axis, and no farther from the origin there
pub record IsPlaceWithin (most : ℕ) (place : Place) : Type 0 where
  pub odd : EachAxis (λ axis. IsOdd (on_axis place.0 axis))
  pub size : IsWithin most place.0

-- a rectangle with an even plane, and no farther from the origin than lines reach
pub record IsInSight (rect : Rect) : Type 0 where
  pub shape : IsRect rect
  pub even : IsEven (plane_of rect)
  pub low : IsWithin (2 ^ 58) rect.low
  pub high : IsWithin (2 ^ 58) rect.high
