-- What follows from what a step answers.
use Rattle.std.proofs.Common.{◌≡◌, ◌+◌, ◌-◌, ◌≤◌, ℕ, Result, Ok, Err, refl, subst}
use Rattle.std.specs.Prelude.{IfOk}
use Rattle.smol_geom.specs.declared.cuboid.Cuboid.{Cuboid}
use Rattle.smol_types.specs.declared.draft.Draft.{Draft}
use Rattle.smol_types.specs.declared.state.State.{State}
use Rattle.smol_types.specs.Limits.{last_serial}
use Rattle.smol_types.specs.Sound.{IsSound}
use Rattle.smol_types.specs.State.{Fits}
use Rattle.smol_types.specs.Steps.{last_step}
use Rattle.smol_meaning.specs.Seen.{IsClosedBox}
use Rattle.smol_meaning.specs.Step.{next_state, within_limit}
use Rattle.smol_meaning.proofs.Stepping.{next_fits, next_rises}
use Rattle.smol_confined.specs.Boxes.{IsIn, IsInOrGone}
use Rattle.smol_confined.specs.Laws.{IsBoxedStep}
use Rattle.smol_confined.proofs.Safe.{step_is_confined}
use Rattle.smol_step.specs.declared.step_fault.StepFault.{StepFault}
use Rattle.smol_step.specs.declared.step_fault.StepFault.TheVariants.{TooManyMolecules, OutOfMemory}
use Rattle.smol_step.specs.Advance.{IsAnswer, limit_told, step_told}

-- a state within the limit, or a count, is told as an answer
limit_is_answer : (expected : Result State ℕ) → IsAnswer expected (limit_told expected)
limit_is_answer (Ok state) = refl
limit_is_answer (Err found) = refl

-- and so is the end of a step, where a state that was made is this one
pub told_is_answer : {E : Type 0} (limit most : ℕ) (after : State) (made : Result State E) → most ≡ limit
    → IfOk made (λ (state : State). state ≡ after) → IsAnswer (within_limit limit after) (step_told most made)
told_is_answer limit most after (Ok state) is made =
    subst (λ (expected : Result State ℕ). IsAnswer expected (limit_told (within_limit most state))) (λ i. within_limit (is i) (made i))
    (limit_is_answer (within_limit most state))
told_is_answer limit most after (Err shortage) is made = tt

module _ (draft : Draft) (seed : ℕ) (state : State) (sound : IsSound draft) (fits : Fits draft state) (more : state.step + 1 ≤ last_step draft.start draft.stop draft.step) where
  pub answer_fits : state.next ≤ last_serial - 16000000 → (answer : Result State StepFault) → IsAnswer (next_state draft seed state) answer → IfOk answer (Fits draft)
  answer_fits room (Ok next) is = next_fits draft seed state next sound fits more room is
  answer_fits room (Err (TooManyMolecules found)) is = tt
  answer_fits room (Err OutOfMemory) is = tt

  pub answer_rises : (answer : Result State StepFault) → IsAnswer (next_state draft seed state) answer → IfOk answer (λ (after : State). after.next ≤ state.next + 16000000)
  answer_rises (Ok next) is = next_rises draft seed state next sound fits more is
  answer_rises (Err (TooManyMolecules found)) is = tt
  answer_rises (Err OutOfMemory) is = tt

  -- a step from the state in a closed box
  pub boxed : (box : Cuboid) → IsClosedBox draft box → IsBoxedStep draft state box
  boxed box closed = record { sound = sound; fits = fits; left = more; closed = closed }

  pub answer_holds : (answer : Result State StepFault) → IsAnswer (next_state draft seed state) answer
      → IfOk answer (λ (after : State). (box : Cuboid) (serial : ℕ) → IsClosedBox draft box → IsIn box serial state → IsInOrGone box serial after)
  answer_holds (Ok next) is = λ box serial closed inside. step_is_confined draft seed state box (boxed box closed) next serial is inside
  answer_holds (Err (TooManyMolecules found)) is = tt
  answer_holds (Err OutOfMemory) is = tt
