-- Compartments that a configuration may have.
use Rattle.std.specs.Prelude.{◌≡◌, ℕ, ◌+◌, ◌<◌, ◌≤◌, length, All}
use Rattle.smol_geom.specs.declared.place.Place.{Place}
use Rattle.smol_types.specs.declared.compartment.Compartment.{Compartment}
use Rattle.smol_types.specs.Coordinates.{AreCoordinates}
use Rattle.smol_types.specs.Limits.{farthest, most_bounds, most_points}

-- an interior-defining point: odd on the axes in use and 1 on the others. It may stand outside the walls
pub record IsPoint (dims : ℕ) (point : Place) : Type 0 where
  pub axes : length point.0 ≡ 3
  pub coordinates : AreCoordinates (farthest + 1) dims point.0

pub record IsCompartment (dims surface_count : ℕ) (compartment : Compartment) : Type 0 where
  pub bound_count : length compartment.surfaces ≤ most_bounds
  pub bounds : All (λ (surface : ℕ). surface < surface_count) compartment.surfaces
  pub point_count : length compartment.points ≤ most_points
  pub points : All (IsPoint dims) compartment.points
