-- What is found among the panels and walls that are looked at so far, in whatever order and with whatever repeats.
use Rattle.std.specs.Prelude.{ℕ, ◌≡◌, ◌<◌, ◌≤◌, ◌⊎◌, true, Contains, List, length, MatchOption, Option, pos, slice_index_or}
use Rattle.smol_geom.specs.declared.moment.Moment.{Moment}
use Rattle.smol_geom.specs.Moments.{IsMoment, is_before}
use Rattle.smol_types.specs.declared.draft.Draft.{Draft}
use Rattle.smol_meaning.specs.declared.sheet.Sheet.TheVariants.{Plane}
use Rattle.smol_meaning.specs.declared.way.Effect.{Effect}
use Rattle.smol_meaning.specs.declared.way.Response.TheVariants.{Pass}
use Rattle.smol_meaning.specs.Plates.{Plate, effect_of, goes_up, precedence}
use Rattle.smol_meaning.specs.Seen.{plates_of}
use Rattle.smol_travel.specs.declared.decision.Best.{Best}
use Rattle.smol_travel.specs.declared.leg.Leg.{Leg}
use Rattle.smol_travel.specs.Legs.{meets}
use Rattle.smol_travel.specs.Meetings.{ComesLater}

-- a plate that stands in for one where there is none
abbrev pub nowhere : Plate
nowhere = record {
  sheet = Plane 0 (pos 0);
  from_below = λ species. record { response = Pass; species = species };
  from_above = λ species. record { response = Pass; species = species };
}

-- the panel or wall of a number
abbrev pub plate_at : Draft → ℕ → Plate
plate_at draft n = slice_index_or (plates_of draft) n nowhere

-- whether the panel or wall of a number is met at a moment
abbrev pub IsMetBy : Draft → Leg → Moment → ℕ → Type 0
IsMetBy draft leg m n = meets leg m (plate_at draft n).sheet ≡ true

-- the panel or wall of a number is met at no moment of the leg
abbrev pub IsNeverMet : Draft → Leg → ℕ → Type 0
IsNeverMet draft leg n = (m : Moment) → IsMoment leg.from leg.by m → IsMetBy draft leg m n → ⊥

-- each panel or wall of a number below a bound that is met at the moment is among those that are left
abbrev pub AreLeft : Draft → Leg → ℕ → List ℕ → Moment → Type 0
AreLeft draft leg bound left m = (n : ℕ) → n < bound → IsMetBy draft leg m n → Contains left n

-- of those below the bound, none but what is left is met after the last moment and before the next one
pub record NoneSooner (draft : Draft) (leg : Leg) (last : Moment) (bound : ℕ) (left : List ℕ) (next : Moment) : Type 0 where
  pub is_later : ComesLater leg last next
  pub sooner : (m : Moment) → ComesLater leg last m → is_before m next ≡ true → AreLeft draft leg bound left m

-- of those below the bound, none but what is left is met after the last moment
pub record NoneOther (draft : Draft) (leg : Leg) (last : Moment) (bound : ℕ) (left : List ℕ) : Type 0 where
  pub later : (m : Moment) → ComesLater leg last m → AreLeft draft leg bound left m

-- the moment before which none is met of those below the bound but what is left; there is none where none of them is met any more
abbrev pub IsNextBut : Draft → Leg → Moment → ℕ → List ℕ → Option Moment → Type 0
IsNextBut draft leg last bound left next =
    MatchOption next (NoneOther draft leg last bound left) (λ m. NoneSooner draft leg last bound left m)

-- what the panel or wall of a number does to a species that meets it at a moment
abbrev pub effect_at : Draft → Leg → Moment → ℕ → ℕ → Effect
effect_at draft leg m species n = effect_of (plate_at draft n) (goes_up leg.by leg.fold m.axis) species

-- the same with the number
abbrev pub best_at : Draft → Leg → Moment → ℕ → ℕ → Best
best_at draft leg m species n = record { number = n; effect = effect_at draft leg m species n }

-- the first effect decides against the second: by precedence, or by number where both have one precedence
abbrev pub ComesFirst : Best → Best → Type 0
ComesFirst one other =
    (precedence one.effect.response < precedence other.effect.response)
    ⊎ ((precedence one.effect.response ≡ precedence other.effect.response) × (one.number ≤ other.number))

-- it is the effect of the panel or wall of its number, which is met; or that the molecule passes as it is, with a number behind all
abbrev pub IsOfOne : Draft → Leg → Moment → ℕ → Best → Type 0
IsOfOne draft leg m species best =
    ((best.number < length (plates_of draft)) × IsMetBy draft leg m best.number × (best.effect ≡ effect_at draft leg m species best.number))
    ⊎ ((best.number ≡ length (plates_of draft)) × (best.effect ≡ record { response = Pass; species = species }))

-- it comes first among the effects of those below the bound that are met, but what is left
pub record IsBestBut (draft : Draft) (leg : Leg) (m : Moment) (species bound : ℕ) (left : List ℕ) (best : Best) : Type 0 where
  pub known : best.effect.species < length draft.species
  pub one : IsOfOne draft leg m species best
  pub first : (n : ℕ) → n < bound → IsMetBy draft leg m n
      → Contains left n ⊎ ComesFirst best (best_at draft leg m species n)
