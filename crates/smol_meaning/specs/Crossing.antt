-- Ways that cross a panel or a wall.
use Rattle.std.specs.Prelude.{◌≡◌, ℕ, ◌<◌, true, List, [], ◌∷◌, Contains}
use Rattle.smol_geom.specs.declared.place.Place.{Place}
use Rattle.smol_geom.specs.declared.place.Step3.{Step3}
use Rattle.smol_geom.specs.declared.moment.Moment.{Moment}
use Rattle.smol_geom.specs.declared.fold.Fold.{Fold}
use Rattle.smol_geom.specs.Fraction.{◌≈ℚ◌}
use Rattle.smol_geom.specs.Fold.{true_point}
use Rattle.smol_geom.specs.Moment.{part_of}
use Rattle.smol_geom.specs.Moments.{moments}
use Rattle.smol_meaning.specs.declared.way.Response.TheVariants.{Reflect}
use Rattle.smol_meaning.specs.declared.way.Standing.{Standing}
use Rattle.smol_meaning.specs.declared.way.Standing.TheVariants.{Goes, Gone}
use Rattle.smol_meaning.specs.Plates.{Plate, is_met, goes_up, response_of}
use Rattle.smol_meaning.specs.Way.{after_moment, straight}

-- where the fold is f before a moment and g after it, the way crosses the plate there: its true point is on the plate, it
-- isn't translated, and its motion across the plate keeps its direction
pub record Crosses (from : Place) (by : Step3) (f : Fold) (m : Moment) (g : Fold) (plate : Plate) : Type 0 where
  pub met : is_met from by f m plate.sheet ≡ true
  pub at_one_point : (axis : ℕ) → axis < 3 → true_point g from by (part_of m) axis ≈ℚ true_point f from by (part_of m) axis
  pub goes_on : goes_up by g m.axis ≡ goes_up by f m.axis

-- from here on the way crosses no plate that reflects, on the face of arrival, the species that the molecule is then
abbrev pub CrossesNoneAt : List Plate → Place → Step3 → Standing → List Moment → Type 0
CrossesNoneAt plates from by standing [] = Unit {0}
CrossesNoneAt plates from by (Gone number) (m ∷ ms) = Unit {0}
CrossesNoneAt plates from by (Goes f species) (m ∷ ms) =
    ((plate : Plate) → Contains plates plate → response_of plate (goes_up by f m.axis) species ≡ Reflect
    → (g : Fold) (next : ℕ) → after_moment plates from by (Goes f species) m ≡ Goes g next → Crosses from by f m g plate → ⊥)
    × CrossesNoneAt plates from by (after_moment plates from by (Goes f species) m) ms

-- the way of a move of a species crosses no plate that reflects, on the face of arrival, what the molecule is then
unfoldable pub CrossesNone : List Plate → ℕ → Place → Step3 → Type 0
CrossesNone plates species from by = CrossesNoneAt plates from by (Goes straight species) (moments from by)
