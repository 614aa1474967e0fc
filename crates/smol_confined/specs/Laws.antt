-- What closed reflecting boxes hold: the molecules in them, and what these make.
use Rattle.std.specs.Prelude.{◌≡◌, ℕ, ◌+◌, ◌<◌, ◌≤◌, ◌↔◌, All, IfSome, List, Ok, Some, slice_get}
use Rattle.std.specs.List.{filter_map}
use Rattle.smol_geom.specs.declared.cuboid.Cuboid.{Cuboid}
use Rattle.smol_types.specs.declared.draft.Draft.{Draft}
use Rattle.smol_types.specs.declared.state.Mol.{Mol}
use Rattle.smol_types.specs.declared.state.State.{State}
use Rattle.smol_types.specs.Sound.{IsSound}
use Rattle.smol_types.specs.State.{Fits}
use Rattle.smol_types.specs.Steps.{last_step}
use Rattle.smol_meaning.specs.declared.event.Fired.{Fired}
use Rattle.smol_meaning.specs.Encounters.{Encounter, event_of_two}
use Rattle.smol_meaning.specs.Events.{births_of_event, born, event_of_one}
use Rattle.smol_meaning.specs.Motion.{all_diffused, diffused}
use Rattle.smol_meaning.specs.Seen.{IsClosedBox}
use Rattle.smol_meaning.specs.Step.{next_state, reactions_of_two}
use Rattle.smol_meaning.specs.Stretch.{Stretch}
use Rattle.smol_confined.specs.Boxes.{IsIn, IsInOrGone, StandsIn}

-- a step from a state of the configuration, which is sound and has a step left, and a closed reflecting box in it
pub record IsBoxedStep (draft : Draft) (state : State) (box : Cuboid) : Type 0 where
  pub sound : IsSound draft
  pub fits : Fits draft state
  pub left : state.step + 1 ≤ last_step draft.start draft.stop draft.step
  pub closed : IsClosedBox draft box

-- a molecule that is inside the box is still inside after its motion in step k, unless it is absorbed
abbrev pub MotionStaysIn : Draft → ℕ → ℕ → Cuboid → Mol → Type 0
MotionStaysIn draft seed k box mol = StandsIn box mol → IfSome (diffused draft seed k mol) (StandsIn box)

-- each product of the event that lives is inside the box, whatever its number
abbrev pub MakesInside : Draft → Cuboid → Fired → Type 0
MakesInside draft box event = (serial : ℕ) → All (StandsIn box) (filter_map (born draft) (births_of_event draft serial event))

-- what a molecule makes alone that is inside the box after motion is inside
abbrev pub MakesInsideAlone : Draft → ℕ → ℕ → Cuboid → Mol → Type 0
MakesInsideAlone draft seed k box mol = StandsIn box mol → IfSome (event_of_one draft seed k mol) (MakesInside draft box)

-- two molecules that react are both inside the box or both outside, and what they make that are inside is inside
pub record ReactsOnOneSide (draft : Draft) (seed k : ℕ) (box : Cuboid) (e : Encounter) : Type 0 where
  pub side : StandsIn box e.a ↔ StandsIn box e.b
  pub products : StandsIn box e.a → MakesInside draft box (event_of_two draft seed k e)

-- the molecules after the motion of the step behind a state
abbrev pub after_motion : Draft → ℕ → State → List Mol
after_motion draft seed state = all_diffused draft seed (state.step + 1) state.mols

-- no molecule leaves the box by its motion
abbrev pub MotionIsConfined : Draft → ℕ → State → Cuboid → Type 0
MotionIsConfined draft seed state box = All (MotionStaysIn draft seed (state.step + 1) box) state.mols

-- no product of one molecule leaves the box
abbrev pub LoneProductsAreConfined : Draft → ℕ → State → Cuboid → Type 0
LoneProductsAreConfined draft seed state box = All (MakesInsideAlone draft seed (state.step + 1) box) (after_motion draft seed state)

-- no molecule inside the box reacts with one outside, and no product of two molecules leaves it
abbrev pub PairsAreConfined : Draft → ℕ → State → Cuboid → Type 0
PairsAreConfined draft seed state box =
    All (ReactsOnOneSide draft seed (state.step + 1) box) (reactions_of_two draft seed (state.step + 1) (after_motion draft seed state))

-- a molecule that is inside the box before the step is inside after it, or gone
abbrev pub StepIsConfined : Draft → ℕ → State → Cuboid → Type 0
StepIsConfined draft seed state box =
    (next : State) (serial : ℕ) → next_state draft seed state ≡ Ok next → IsIn box serial state → IsInOrGone box serial next

-- where all molecules are inside the box before the step, all are after it, those that are born among them
abbrev pub StepKeepsAllIn : Draft → ℕ → State → Cuboid → Type 0
StepKeepsAllIn draft seed state box =
    (next : State) → next_state draft seed state ≡ Ok next → All (StandsIn box) state.mols → All (StandsIn box) next.mols

-- a molecule that is inside the box in one state of a run is inside in each later one, or gone
abbrev pub RunIsConfined : Stretch → Cuboid → Type 0
RunIsConfined run box =
    (i j : ℕ) (earlier later : State) (serial : ℕ) → i < j → slice_get run.states i ≡ Some earlier → slice_get run.states j ≡ Some later
    → IsIn box serial earlier → IsInOrGone box serial later

-- whatever step a run makes from one of its states, no product of what is inside the box leaves it, and no molecule inside reacts
-- with one outside
abbrev pub EventsOfRunAreConfined : Draft → ℕ → Stretch → Cuboid → Type 0
EventsOfRunAreConfined draft seed run box =
    All (λ (state : State). state.step + 1 ≤ last_step draft.start draft.stop draft.step
    → LoneProductsAreConfined draft seed state box × PairsAreConfined draft seed state box) run.states
