-- What a step answers.
use Rattle.std.specs.Prelude.{◌≡◌, ℕ, Result, Ok, Err}
use Rattle.smol_types.specs.declared.state.State.{State}
use Rattle.smol_meaning.specs.Step.{within_limit}
use Rattle.smol_step.specs.declared.step_fault.StepFault.{StepFault}
use Rattle.smol_step.specs.declared.step_fault.StepFault.TheVariants.{TooManyMolecules, OutOfMemory}

-- the answer is the state that is to come, or the count of molecules that passes the limit, or memory ran out
abbrev pub IsAnswer : Result State ℕ → Result State StepFault → Type 0
IsAnswer expected (Ok next) = expected ≡ Ok next
IsAnswer expected (Err (TooManyMolecules found)) = expected ≡ Err found
IsAnswer expected (Err OutOfMemory) = Unit {0}

-- how a state is told, or the count of molecules that passes the limit
abbrev pub limit_told : Result State ℕ → Result State StepFault
limit_told (Ok state) = Ok state
limit_told (Err found) = Err (TooManyMolecules found)

-- how the end of a step is told, where there may be no more than so many molecules: that memory ran out where no state was made
abbrev pub step_told : {E : Type 0} → ℕ → Result State E → Result State StepFault
step_told most (Ok state) = limit_told (within_limit most state)
step_told most (Err shortage) = Err OutOfMemory
