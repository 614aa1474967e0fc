-- Panels and walls, and what those do that a molecule meets at a moment of its move.
use Rattle.std.specs.Prelude.{ℕ, ◌&&◌, ◌==◌, Bool, not, nat_le, List, [], ◌∷◌, ℤ, pos, ◌+ℤ◌, ◌-ℤ◌, ◌*ℤ◌, neg_ℤ, int_lt, int_le, if◌then◌else◌, slice_set}
use Rattle.smol_geom.specs.declared.place.Place.{Place}
use Rattle.smol_geom.specs.declared.place.Step3.{Step3}
use Rattle.smol_geom.specs.declared.moment.Moment.{Moment}
use Rattle.smol_geom.specs.declared.fold.Fold.{Fold}
use Rattle.smol_geom.specs.declared.rect.Rect.{Rect}
use Rattle.smol_geom.specs.Axes.{on_axis}
use Rattle.smol_geom.specs.Fraction.{Fraction, whole, ◌≈ℚ◌}
use Rattle.smol_geom.specs.Fold.{true_point}
use Rattle.smol_geom.specs.Moment.{part_of}
use Rattle.smol_geom.specs.Moments.{coordinate_after}
use Rattle.smol_geom.specs.Rect.{HoldsPoint, plane_of}
use Rattle.smol_meaning.specs.declared.sheet.Sheet.{Sheet}
use Rattle.smol_meaning.specs.declared.sheet.Sheet.TheVariants.{Rectangle, Plane}
use Rattle.smol_meaning.specs.declared.way.Effect.{Effect}
use Rattle.smol_meaning.specs.declared.way.Response.{Response}
use Rattle.smol_meaning.specs.declared.way.Response.TheVariants.{Reflect, Absorb, Jump, Pass}
use Rattle.smol_meaning.specs.declared.way.Standing.{Standing}
use Rattle.smol_meaning.specs.declared.way.Standing.TheVariants.{Goes, Gone}

-- a panel or a wall with what it does to a molecule of a species, on arrival from its lesser and from its greater side
pub record Plate : Type 0 where
  pub sheet : Sheet
  pub from_below : ℕ → Effect
  pub from_above : ℕ → Effect

-- the axis that the sheet lies across
abbrev pub sheet_axis : Sheet → ℕ
sheet_axis (Rectangle rect) = rect.axis
sheet_axis (Plane axis plane) = axis

-- the sheet's one coordinate on that axis
abbrev pub sheet_plane : Sheet → ℤ
sheet_plane (Rectangle rect) = plane_of rect
sheet_plane (Plane axis plane) = plane

-- the point is on the sheet. A rectangle is closed: its edges and corners belong to it
abbrev pub IsOn : Sheet → (ℕ → Fraction) → Type 0
IsOn (Rectangle rect) point = HoldsPoint rect point
IsOn (Plane axis plane) point = point axis ≈ℚ whole plane

-- whether the first fraction is at most the second
abbrev pub is_at_most : Fraction → Fraction → Bool
is_at_most s t = int_le (s.num *ℤ pos t.den) (t.num *ℤ pos s.den)

-- whether the fraction is from the low to the high number, both included
abbrev pub is_between : ℤ → ℤ → Fraction → Bool
is_between low high x = is_at_most (whole low) x && is_at_most x (whole high)

-- whether the closed rectangle holds the point
abbrev pub is_in_rect : Rect → (ℕ → Fraction) → Bool
is_in_rect rect point =
    is_between (on_axis rect.low 0) (on_axis rect.high 0) (point 0)
    && (is_between (on_axis rect.low 1) (on_axis rect.high 1) (point 1)
    && is_between (on_axis rect.low 2) (on_axis rect.high 2) (point 2))

-- whether the point is on the sheet
abbrev pub is_on : Sheet → (ℕ → Fraction) → Bool
is_on (Rectangle rect) point = is_in_rect rect point
is_on (Plane axis plane) point = is_between plane plane (point axis)

-- whether a sheet is met at a moment: it lies across the axis of the moment, and the true point is on it
abbrev pub is_met : Place → Step3 → Fold → Moment → Sheet → Bool
is_met from by f m sheet = (sheet_axis sheet == m.axis) && is_on sheet (true_point f from by (part_of m))

-- whether the true coordinate of an axis grows
abbrev pub goes_up : Step3 → Fold → ℕ → Bool
goes_up by f axis = int_lt (pos 0) (on_axis f.sign axis *ℤ on_axis by.0 axis)

-- what the plate does to a species on the face of arrival: motion that goes up arrives from below
abbrev pub effect_of : Plate → Bool → ℕ → Effect
effect_of plate up species = if up then plate.from_below species else plate.from_above species

-- what it does, whatever it makes of the species
abbrev pub response_of : Plate → Bool → ℕ → Response
response_of plate up species = (effect_of plate up species).response

-- what the plates do to a species that are met at a moment, in the order of their numbers
unfoldable pub effects_met : List Plate → Place → Step3 → Fold → Moment → ℕ → List Effect
effects_met [] from by f m species = []
effects_met (plate ∷ plates) from by f m species =
    if is_met from by f m plate.sheet
    then effect_of plate (goes_up by f m.axis) species ∷ effects_met plates from by f m species
    else effects_met plates from by f m species

-- the order in which responses decide where several plates are met at one point
abbrev pub precedence : Response → ℕ
precedence Reflect = 0
precedence (Absorb number) = 1
precedence (Jump by up) = 2
precedence Pass = 3

-- the one of two that decides, where the first is of the plate of the lower number
abbrev pub first_of : Effect → Effect → Effect
first_of effect later = if nat_le (precedence effect.response) (precedence later.response) then effect else later

-- the one that decides: by precedence, and then by number. Where no plate is met, the molecule passes as it is
unfoldable pub deciding : ℕ → List Effect → Effect
deciding species [] = record { response = Pass; species = species }
deciding species (effect ∷ effects) = first_of effect (deciding species effects)

-- the whole number that the true coordinate on a moment's axis is at the moment
abbrev pub plane_at : Place → Step3 → Fold → Moment → ℤ
plane_at from by f m = on_axis f.sign m.axis *ℤ coordinate_after from by m.axis m.num +ℤ on_axis f.shift m.axis

-- the fold mirrored on an axis at a plane
abbrev pub mirrored : Fold → ℕ → ℤ → Fold
mirrored f axis plane =
    record {
      sign = slice_set f.sign axis (neg_ℤ (on_axis f.sign axis));
      shift = slice_set f.shift axis (pos 2 *ℤ plane -ℤ on_axis f.shift axis);
    }

-- the fold translated
abbrev pub shifted : Fold → List ℤ → Fold
shifted f by =
    record {
      sign = f.sign;
      shift = (on_axis f.shift 0 +ℤ on_axis by 0) ∷ (on_axis f.shift 1 +ℤ on_axis by 1) ∷ (on_axis f.shift 2 +ℤ on_axis by 2) ∷ [];
    }

-- whether two answers are one
abbrev pub are_same : Bool → Bool → Bool
are_same a b = if a then b else not b

-- the fold after a jump from a plane by a translation: mirrored at the new plane where the motion, which goes up or not, is to
-- turn. It is to lead up or not
abbrev pub jumped : Fold → ℕ → ℤ → List ℤ → Bool → Bool → Fold
jumped f axis plane by up goes =
    if are_same goes up then shifted f by else mirrored (shifted f by) axis (plane +ℤ on_axis by axis)

-- what a response makes of a fold at a moment, where the molecule is of this species from then on
abbrev pub done_by : Place → Step3 → Fold → Moment → Response → ℕ → Standing
done_by from by f m Reflect species = Goes (mirrored f m.axis (plane_at from by f m)) species
done_by from by f m (Absorb number) species = Gone number
done_by from by f m (Jump shift up) species = Goes (jumped f m.axis (plane_at from by f m) shift up (goes_up by f m.axis)) species
done_by from by f m Pass species = Goes f species
