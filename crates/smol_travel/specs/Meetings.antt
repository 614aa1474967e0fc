-- What the walk from one meeting to the next rests on.
use Rattle.std.specs.Prelude.{ℕ, ◌≡◌, ◌<◌, ◌^◌, ◌⊎◌, true, false, List, length, All, ℤ, pos, Option, Some, None, MatchOption, int_lt, if◌then◌else◌}
use Rattle.smol_geom.specs.declared.moment.Moment.{Moment}
use Rattle.smol_geom.specs.Axes.{IsWithin}
use Rattle.smol_geom.specs.Moments.{IsMoment, is_before, moments, moments_after}
use Rattle.smol_types.specs.declared.draft.Draft.{Draft}
use Rattle.smol_meaning.specs.declared.way.Response.{Response}
use Rattle.smol_meaning.specs.declared.way.Response.TheVariants.{Reflect, Absorb, Jump, Pass}
use Rattle.smol_meaning.specs.declared.way.Standing.{Standing}
use Rattle.smol_meaning.specs.declared.way.Standing.TheVariants.{Goes, Gone}
use Rattle.smol_meaning.specs.declared.sheet.Sheet.{Sheet}
use Rattle.smol_meaning.specs.Folds.{FoldFits}
use Rattle.smol_meaning.specs.Seen.{plates_of}
use Rattle.smol_meaning.specs.Way.{after_moments, straight}
use Rattle.smol_travel.specs.declared.leg.Leg.{Leg}
use Rattle.smol_travel.specs.Legs.{meets}

-- no sheet is met at the moment
abbrev pub NoneMet : List Sheet → Leg → Moment → Type 0
NoneMet sheets leg m = All (λ sheet. meets leg m sheet ≡ false) sheets

-- a moment of the move that comes after the last one
pub record ComesLater (leg : Leg) (last m : Moment) : Type 0 where
  pub moment : IsMoment leg.from leg.by m
  pub later : is_before last m ≡ true

-- no sheet is met after the last moment and before the next one
pub record NothingBefore (sheets : List Sheet) (leg : Leg) (last next : Moment) : Type 0 where
  pub is_later : ComesLater leg last next
  pub none_before : (m : Moment) → ComesLater leg last m → is_before m next ≡ true → NoneMet sheets leg m

-- no sheet is met after the last moment
pub record NothingLeft (sheets : List Sheet) (leg : Leg) (last : Moment) : Type 0 where
  pub none : (m : Moment) → ComesLater leg last m → NoneMet sheets leg m

-- the moment before which no sheet is met; there is none where none is met any more
abbrev pub IsNext : List Sheet → Leg → Moment → Option Moment → Type 0
IsNext sheets leg last next = MatchOption next (NothingLeft sheets leg last) (λ m. NothingBefore sheets leg last m)

-- the earlier of a moment, where there is one, and another
abbrev pub sooner_of : Option Moment → Moment → Moment
sooner_of None m = m
sooner_of (Some n) m = if is_before m n then m else n

-- the gap isn't 0, and leads up exactly where the way leads up
abbrev pub IsSameWay : ℤ → ℤ → Type 0
IsSameWay gap way =
    ((int_lt (pos 0) way ≡ true) × (int_lt (pos 0) gap ≡ true)) ⊎ ((int_lt (pos 0) way ≡ false) × (int_lt gap (pos 0) ≡ true))

-- a jump translates by numbers that aren't large
abbrev pub IsSmallJump : Response → Type 0
IsSmallJump Reflect = Unit {0}
IsSmallJump (Absorb number) = Unit {0}
IsSmallJump (Jump by up) = IsWithin (2 ^ 42) by
IsSmallJump Pass = Unit {0}

-- a way that goes on does so as a species of the configuration
abbrev pub IsOfSpecies : Draft → Standing → Type 0
IsOfSpecies draft (Goes f species) = species < length draft.species
IsOfSpecies draft (Gone number) = Unit {0}

-- the walk is on the way that a molecule of a species began: what the moments after the last one make of the leg, as the species
-- that the molecule is now, is what all moments make of the way
pub record IsOnWay (draft : Draft) (began : ℕ) (leg : Leg) (species : ℕ) (last : Moment) : Type 0 where
  pub fits : FoldFits draft.dims leg.from leg.by leg.fold
  pub known : species < length draft.species
  pub positive : 0 < last.den
  pub rest : after_moments (plates_of draft) leg.from leg.by (Goes leg.fold species) (moments_after last (moments leg.from leg.by))
      ≡ after_moments (plates_of draft) leg.from leg.by (Goes straight began) (moments leg.from leg.by)
