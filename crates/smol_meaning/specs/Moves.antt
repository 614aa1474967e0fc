-- Moves that a way is defined for, and how far ways lead.
use Rattle.std.specs.Prelude.{◌≡◌, ℕ, ◌+◌, ◌^◌, ◌<◌, ◌≤◌, length, pos, max, unsigned_abs}
use Rattle.smol_geom.specs.declared.place.Place.{Place}
use Rattle.smol_geom.specs.declared.place.Step3.{Step3}
use Rattle.smol_geom.specs.Axes.{on_axis, EachAxis, IsWithin, IsOdd, IsEven}
use Rattle.smol_types.specs.Limits.{farthest}
use Rattle.smol_meaning.specs.declared.way.Travelled.{Travelled}
use Rattle.smol_meaning.specs.declared.way.Travelled.TheVariants.{At, Absorbed}

-- a move of a molecule: from an odd place by an even displacement, which is 0 on axes that aren't in use
pub record IsMove (dims : ℕ) (from : Place) (by : Step3) : Type 0 where
  pub place_size : IsWithin (2 ^ 57) from.0
  pub place_odd : EachAxis (λ axis. IsOdd (on_axis from.0 axis))
  pub step_size : IsWithin (2 ^ 34) by.0
  pub step_even : EachAxis (λ axis. IsEven (on_axis by.0 axis))
  pub unused : EachAxis (λ axis. dims ≤ axis → on_axis by.0 axis ≡ pos 0)

-- how far out a way may lead on an axis: as far as its start or the farthest plane, and on by the displacement
abbrev pub far_on : Place → Step3 → ℕ → ℕ
far_on from by axis = max (unsigned_abs (on_axis from.0 axis)) farthest + unsigned_abs (on_axis by.0 axis)

-- a place is odd and no farther out than a way may lead, and on an axis that isn't in use it is where the start is
pub record IsEndOf (dims : ℕ) (from : Place) (by : Step3) (place : Place) : Type 0 where
  pub count : length place.0 ≡ 3
  pub odd : EachAxis (λ axis. IsOdd (on_axis place.0 axis))
  pub size : EachAxis (λ axis. unsigned_abs (on_axis place.0 axis) ≤ far_on from by axis)
  pub unused : EachAxis (λ axis. dims ≤ axis → on_axis place.0 axis ≡ on_axis from.0 axis)

-- a way that isn't absorbed ends so
abbrev pub EndsWithin : ℕ → Place → Step3 → Travelled → Type 0
EndsWithin dims from by (At place species) = IsEndOf dims from by place
EndsWithin dims from by (Absorbed number) = Unit {0}

-- and as one of so many species
abbrev pub EndsAmong : ℕ → Travelled → Type 0
EndsAmong count (At place species) = species < count
EndsAmong count (Absorbed number) = Unit {0}
