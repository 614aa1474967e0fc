-- Where the molecules, points and panels of a configuration stand.
use Rattle.std.proofs.Common.{◌≡◌, ℕ, zero, suc, ◌+◌, ◌%◌, ◌^◌, ◌≤◌, ℤ, pos, List, [], ◌∷◌, length, All, unsigned_abs, refl, sym, subst, arith}
use Rattle.std.proofs.lemmas.List.Elements.{All-nil, All-cons}
use Rattle.smol_geom.specs.declared.place.Place.{Place}
use Rattle.smol_geom.specs.Axes.{IsWithin}
use Rattle.smol_types.specs.Compartments.{IsPoint}
use Rattle.smol_types.specs.Coordinates.{AreCoordinates}
use Rattle.smol_types.specs.Limits.{farthest}
use Rattle.smol_meaning.specs.Sighted.{IsPlaceWithin}

-- a coordinate of a place: odd and no farther from the origin
pub record IsCoordinate (most : ℕ) (x : ℤ) : Type 0 where
  pub odd : unsigned_abs x % 2 ≡ 1
  pub size : unsigned_abs x ≤ most

coordinate_one : (most : ℕ) (x : ℤ) → 1 ≤ most → x ≡ pos 1 → IsCoordinate most x
coordinate_one most x some is = subst (IsCoordinate most) (sym is) (record { odd = refl; size = some })

pub each_coordinate : (most dims : ℕ) (xs : List ℤ) → 1 ≤ most → AreCoordinates most dims xs → All (IsCoordinate most) xs
each_coordinate most dims [] some are = All-nil (IsCoordinate most)
each_coordinate most zero (x ∷ xs) some are =
    All-cons (IsCoordinate most) x xs (coordinate_one most x some are.0) (each_coordinate most zero xs some are.1)
each_coordinate most (suc dims) (x ∷ xs) some are =
    All-cons (IsCoordinate most) x xs (record { odd = are.0; size = are.1 }) (each_coordinate most dims xs some are.2)

-- coordinates of a place are odd and no farther from the origin on each axis
pub coordinates_within : (most dims : ℕ) (place : Place) → 1 ≤ most → length place.0 ≡ 3 → AreCoordinates most dims place.0
    → IsPlaceWithin most place
coordinates_within most dims place some three are =
    let each = each_coordinate most dims place.0 some are in
    let x = each 0 (pos 0) (omega arith) in
    let y = each 1 (pos 0) (omega arith) in
    let z = each 2 (pos 0) (omega arith) in
    record { odd = (x.odd, y.odd, z.odd); size = (x.size, y.size, z.size) }

within_more : (most more : ℕ) (xs : List ℤ) → most ≤ more → IsWithin most xs → IsWithin more xs
within_more most more xs below within = (omega (arith, within.0), omega (arith, within.1), omega (arith, within.2))

-- within more room too
pub place_within_more : (most more : ℕ) (place : Place) → most ≤ more → IsPlaceWithin most place → IsPlaceWithin more place
place_within_more most more place below is = record { odd = is.odd; size = within_more most more place.0 below is.size }

-- an interior-defining point stands where lines are drawn
pub point_within : (dims : ℕ) (point : Place) → IsPoint dims point → IsPlaceWithin (2 ^ 58) point
point_within dims point is =
    place_within_more (farthest + 1) (2 ^ 58) point (omega arith) (coordinates_within (farthest + 1) dims point (omega arith) is.axes is.coordinates)
