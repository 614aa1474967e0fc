-- What holds of every fold that a way reaches among the plates of a configuration.
use Rattle.std.specs.Prelude.{◌≡◌, ◌≢◌, ℕ, Bool, ◌^◌, ◌<◌, ◌≤◌, List, length, ℤ, pos, ◌+ℤ◌, unsigned_abs}
use Rattle.smol_geom.specs.declared.fold.Fold.{Fold}
use Rattle.smol_geom.specs.declared.place.Place.{Place}
use Rattle.smol_geom.specs.declared.place.Step3.{Step3}
use Rattle.smol_geom.specs.declared.rect.Rect.{Rect}
use Rattle.smol_geom.specs.Axes.{on_axis, EachAxis, IsWithin, IsEven}
use Rattle.smol_geom.specs.Fold.{IsFold}
use Rattle.smol_geom.specs.Rect.{IsRect, plane_of}
use Rattle.smol_types.specs.Limits.{farthest}
use Rattle.smol_meaning.specs.declared.sheet.Sheet.{Sheet}
use Rattle.smol_meaning.specs.declared.sheet.Sheet.TheVariants.{Rectangle, Plane}
use Rattle.smol_meaning.specs.declared.way.Response.{Response}
use Rattle.smol_meaning.specs.declared.way.Response.TheVariants.{Reflect, Absorb, Jump, Pass}
use Rattle.smol_meaning.specs.declared.way.Standing.{Standing}
use Rattle.smol_meaning.specs.declared.way.Standing.TheVariants.{Goes, Gone}
use Rattle.smol_meaning.specs.Moves.{far_on}
use Rattle.smol_meaning.specs.Plates.{Plate, response_of}
use Rattle.smol_meaning.specs.Way.{end_on}

-- a rectangle within the lengths there are, across an axis at an even plane
pub record IsPanelRect (rect : Rect) : Type 0 where
  pub shape : IsRect rect
  pub low : IsWithin farthest rect.low
  pub high : IsWithin farthest rect.high
  pub even : IsEven (plane_of rect)

-- an even plane within the lengths there are, across an axis
pub record IsWallPlane (axis : ℕ) (plane : ℤ) : Type 0 where
  pub across : axis < 3
  pub size : unsigned_abs plane ≤ farthest
  pub even : IsEven plane

abbrev pub IsSheet : Sheet → Type 0
IsSheet (Rectangle rect) = IsPanelRect rect
IsSheet (Plane axis plane) = IsWallPlane axis plane

-- translated, the sheet is within the lengths there are. A wall, which has no edges, is translated along its own axis alone
abbrev pub LandsWithin : Sheet → List ℤ → Type 0
LandsWithin (Rectangle rect) by =
    EachAxis (λ axis.
    (unsigned_abs (on_axis rect.low axis +ℤ on_axis by axis) ≤ farthest)
    × (unsigned_abs (on_axis rect.high axis +ℤ on_axis by axis) ≤ farthest))
LandsWithin (Plane axis plane) by =
    (unsigned_abs (plane +ℤ on_axis by axis) ≤ farthest) × EachAxis (λ other. other ≢ axis → on_axis by other ≡ pos 0)

-- a jump from a sheet translates by even numbers on axes that are in use
pub record IsJump (dims : ℕ) (sheet : Sheet) (by : List ℤ) : Type 0 where
  pub even : EachAxis (λ axis. IsEven (on_axis by axis))
  pub unused : EachAxis (λ axis. dims ≤ axis → on_axis by axis ≡ pos 0)
  pub lands : LandsWithin sheet by

abbrev pub IsResponse : ℕ → Sheet → Response → Type 0
IsResponse dims sheet Reflect = Unit {0}
IsResponse dims sheet (Absorb number) = Unit {0}
IsResponse dims sheet (Jump by up) = IsJump dims sheet by
IsResponse dims sheet Pass = Unit {0}

-- a panel or wall of a configuration in which so many axes are in use
pub record IsPlate (dims : ℕ) (plate : Plate) : Type 0 where
  pub sheet : IsSheet plate.sheet
  pub responses : (up : Bool) (species : ℕ) → IsResponse dims plate.sheet (response_of plate up species)

-- a fold with three signs and three even shifts that aren't large
pub record IsSmallFold (f : Fold) : Type 0 where
  pub fold : IsFold f
  pub signs : length f.sign ≡ 3
  pub shifts : length f.shift ≡ 3
  pub even : EachAxis (λ axis. IsEven (on_axis f.shift axis))
  pub size : IsWithin (2 ^ 58) f.shift

-- a fold that a way reaches: the end that it leads to is no farther out than a way may lead, and on an axis that isn't in use it
-- is where the start is
pub record FoldFits (dims : ℕ) (from : Place) (by : Step3) (f : Fold) : Type 0 where
  pub small : IsSmallFold f
  pub end : EachAxis (λ axis. unsigned_abs (end_on from by f axis) ≤ far_on from by axis)
  pub unused : EachAxis (λ axis. dims ≤ axis → end_on from by f axis ≡ on_axis from.0 axis)

abbrev pub StandingFits : ℕ → Place → Step3 → Standing → Type 0
StandingFits dims from by (Goes f species) = FoldFits dims from by f
StandingFits dims from by (Gone number) = Unit {0}
