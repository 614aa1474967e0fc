-- Closed reflecting boxes, which hold what is in them.
use Rattle.std.specs.Prelude.{◌≡◌, ◌≢◌, ℕ, ◌<◌, Bool, true, false, List, [], ◌∷◌, Contains, ℤ, pos, ◌≤ℤ◌, ◌<ℤ◌}
use Rattle.smol_geom.specs.declared.place.Place.{Place}
use Rattle.smol_geom.specs.declared.place.Step3.{Step3}
use Rattle.smol_geom.specs.declared.moment.Moment.{Moment}
use Rattle.smol_geom.specs.declared.cuboid.Cuboid.{Cuboid}
use Rattle.smol_geom.specs.Axes.{on_axis}
use Rattle.smol_geom.specs.Fraction.{Fraction, IsNumber, whole, ◌≤ℚ◌}
use Rattle.smol_geom.specs.Fold.{true_point}
use Rattle.smol_geom.specs.Moment.{part_of}
use Rattle.smol_geom.specs.Moments.{moments}
use Rattle.smol_meaning.specs.declared.sheet.Sheet.{Sheet}
use Rattle.smol_meaning.specs.declared.sheet.Sheet.TheVariants.{Rectangle, Plane}
use Rattle.smol_meaning.specs.declared.way.Effect.{Effect}
use Rattle.smol_meaning.specs.declared.way.Response.{Response}
use Rattle.smol_meaning.specs.declared.way.Response.TheVariants.{Reflect, Absorb, Jump, Pass}
use Rattle.smol_meaning.specs.declared.way.Standing.{Standing}
use Rattle.smol_meaning.specs.declared.way.Standing.TheVariants.{Goes, Gone}
use Rattle.smol_meaning.specs.declared.way.Travelled.{Travelled}
use Rattle.smol_meaning.specs.declared.way.Travelled.TheVariants.{At, Absorbed}
use Rattle.smol_meaning.specs.Plates.{Plate, IsOn, effect_of, response_of, sheet_axis, sheet_plane}
use Rattle.smol_meaning.specs.Way.{after_moment, straight, way_among}

-- the place is inside the box: strictly between its faces. A place is odd and a face even, so no place is on a face
abbrev pub IsInside : Cuboid → Place → Type 0
IsInside box place =
    (axis : ℕ) → axis < 3 → (on_axis box.low axis <ℤ on_axis place.0 axis) × (on_axis place.0 axis <ℤ on_axis box.high axis)

-- a number from the low to the high one, both included
pub record LiesFrom (low high t : Fraction) : Type 0 where
  pub number : IsNumber t
  pub above : low ≤ℚ t
  pub below : t ≤ℚ high

-- the point is in the closed region of the box, its faces included: each of its coordinates is a number from face to face
abbrev pub IsInRegion : Cuboid → (ℕ → Fraction) → Type 0
IsInRegion box point =
    (axis : ℕ) → axis < 3 → LiesFrom (whole (on_axis box.low axis)) (whole (on_axis box.high axis)) (point axis)

-- on the other axes a sheet reaches at least as far as the box: a plane has no edges
abbrev pub Covers : Sheet → Cuboid → Type 0
Covers (Plane axis plane) box = Unit {0}
Covers (Rectangle rect) box =
    (j : ℕ) → j < 3 → j ≢ rect.axis
    → (on_axis rect.low j ≤ℤ on_axis box.low j) × (on_axis box.high j ≤ℤ on_axis rect.high j)

-- a plate of the list holds the whole face of the box that lies across an axis at a plane, and reflects what arrives there
-- from within as this species: on an upper face what goes up, on a lower one what goes down
pub record IsFaceShut (plates : List Plate) (species : ℕ) (box : Cuboid) (axis : ℕ) (plane : ℤ) (upper : Bool) : Type 0 where
  pub plate : Plate
  pub listed : Contains plates plate
  pub across : sheet_axis plate.sheet ≡ axis
  pub at_plane : sheet_plane plate.sheet ≡ plane
  pub covers : Covers plate.sheet box
  pub reflects : response_of plate upper species ≡ Reflect

-- the response moves no molecule elsewhere
abbrev pub StaysPut : Response → Type 0
StaysPut Reflect = Unit {0}
StaysPut (Absorb number) = Unit {0}
StaysPut (Jump by up) = ⊥
StaysPut Pass = Unit {0}

-- the effect moves no molecule elsewhere, and what it makes of it is among these species
pub record StaysAmong (among : ℕ → Bool) (effect : Effect) : Type 0 where
  pub put : StaysPut effect.response
  pub kin : among effect.species ≡ true

-- the plates make a closed reflecting box for the species among these: to each of them each face on the axes in use is shut, and
-- no plate with a point in the closed region makes one of them jump, or turns it into another species than these
pub record IsClosed (dims : ℕ) (plates : List Plate) (among : ℕ → Bool) (box : Cuboid) : Type 0 where
  pub lower : (species : ℕ) → among species ≡ true → (axis : ℕ) → axis < dims
      → IsFaceShut plates species box axis (on_axis box.low axis) false
  pub upper : (species : ℕ) → among species ≡ true → (axis : ℕ) → axis < dims
      → IsFaceShut plates species box axis (on_axis box.high axis) true
  pub quiet : (plate : Plate) → Contains plates plate → (point : ℕ → Fraction) → IsInRegion box point → IsOn plate.sheet point
      → (species : ℕ) → among species ≡ true → (up : Bool) → StaysAmong among (effect_of plate up species)

-- after this part of the move each true point of the way is in the closed region of the box, at every part of the move: up to the
-- next moment it is the point of the fold so far, and from there on that of the fold after the moment
abbrev pub StaysInRegion : List Plate → Cuboid → Place → Step3 → Fraction → Standing → List Moment → Type 0
StaysInRegion plates box from by last (Gone number) ms = Unit {0}
StaysInRegion plates box from by last (Goes f species) [] =
    (t : Fraction) → LiesFrom last (whole (pos 1)) t → IsInRegion box (true_point f from by t)
StaysInRegion plates box from by last (Goes f species) (m ∷ ms) =
    ((t : Fraction) → LiesFrom last (part_of m) t → IsInRegion box (true_point f from by t))
    × StaysInRegion plates box from by (part_of m) (after_moment plates from by (Goes f species) m) ms

-- a way that isn't absorbed ends inside the box
abbrev pub EndsInside : Cuboid → Travelled → Type 0
EndsInside box (At place species) = IsInside box place
EndsInside box (Absorbed number) = Unit {0}

-- the box confines the way of a move of a species among the plates: each true point of it is in the closed region, and it ends
-- inside
pub record Confines (plates : List Plate) (species : ℕ) (from : Place) (by : Step3) (box : Cuboid) : Type 0 where
  pub region : StaysInRegion plates box from by (whole (pos 0)) (Goes straight species) (moments from by)
  pub end : EndsInside box (way_among plates species from by)
