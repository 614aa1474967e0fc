-- The fault of a part is told as one of the run that goes with what the part is defined to do.
use Rattle.std.proofs.Common.{◌≡◌, ◌+◌, ℕ, [], Option, Result, Ok, Err, refl, sym, ap, subst}
use Rattle.std.specs.Result.{IsErrAnd}
use Rattle.smol_edge.specs.Faults.{Tells}
use Rattle.smol_edge.specs.Outlets.{Written}
use Rattle.smol_types.specs.declared.draft.Draft.{Draft}
use Rattle.smol_types.specs.declared.state.State.{State}
use Rattle.smol_meaning.specs.Placement.{NoPlace, opening_state}
use Rattle.smol_meaning.specs.Run.{run_from, run_of, step_of, stepped}
use Rattle.smol_meaning.specs.Step.{moves_of, next_state}
use Rattle.smol_meaning.specs.Stretch.{Over, Stretch}
use Rattle.smol_compart.specs.declared.place_fault.PlaceFault.{PlaceFault}
use Rattle.smol_compart.specs.declared.place_fault.PlaceFault.TheVariants as place
use Rattle.smol_compart.specs.Fault.{IsFaultOf}
use Rattle.smol_step.specs.declared.step_fault.StepFault.{StepFault}
use Rattle.smol_step.specs.declared.step_fault.StepFault.TheVariants as step
use Rattle.smol_step.specs.Advance.{IsAnswer}
use Rattle.smol_commands.specs.declared.command_fault.CommandFault.{CommandFault}
use Rattle.smol_commands.specs.declared.command_fault.CommandFault.TheVariants as command
use Rattle.smol_loop.specs.declared.run_fault.RunFault.{RunFault}
use Rattle.smol_loop.specs.declared.run_fault.RunFault.TheVariants as fault
use Rattle.smol_loop.specs.Faults.{fault_of_command, fault_of_placing, fault_of_step}
use Rattle.smol_loop.specs.Parts.{EndsPart, Leaves}
use Rattle.smol_loop.specs.Simulation.{EndsAs, Prints, pieces_of}
use Rattle.smol_loop.proofs.Lone.{front_nothing, nothing_written}

-- a command that would make too many molecules ends the run at the step of its state, and has printed nothing
pub command_fails : (part : Stretch) (last : State) (k : ℕ) (a : Option Written) (l : ℕ) (one : CommandFault) → (one ≡ command.TooManyMolecules → part.ending ≡ Over k) → (one ≡ command.TooManyMolecules → part.pieces ≡ [])
    → Leaves part (Err (fault_of_command one k)) last a a l l
command_fails part last k a l command.TooManyMolecules over none = record { ended = over refl; given = nothing_written part.pieces a (none refl); faults = refl }
command_fails part last k a l command.OutOfMemory over none = record { ended = tt; given = front_nothing part.pieces a; faults = refl }

-- a step after which there are too many molecules ends the run
pub step_ends : (draft : Draft) (seed : ℕ) (state last : State) (one : StepFault) → IsAnswer (next_state draft seed state) (Err one)
    → EndsPart (step_of draft seed state) last (Err (fault_of_step one (state.step + 1)))
unfolding step_of
step_ends draft seed state last (step.TooManyMolecules found) is =
    ap (λ (next : Result State ℕ). (stepped (moves_of draft seed state) state next).ending) is
step_ends draft seed state last step.OutOfMemory is = tt

-- and no write has failed
pub step_writes_nothing : (k : ℕ) (one : StepFault) → fault_of_step one k ≡ fault.OutputFault → ⊥
step_writes_nothing k (step.TooManyMolecules found) is = cc is
step_writes_nothing k step.OutOfMemory is = cc is

-- a molecule without a place keeps the run from its beginning
pub placing_ends : (T : Type 0) (draft : Draft) (seed : ℕ) (one : PlaceFault) → IsFaultOf (opening_state draft seed) one
    → EndsAs {T = T} (run_of draft seed) (Err (fault_of_placing one))
unfolding run_of
placing_ends T draft seed (place.NoPlace line serial) is = ap (run_from draft seed) is
placing_ends T draft seed place.OutOfMemory is = tt

pub placing_prints : (T : Type 0) (draft : Draft) (seed : ℕ) (a : Option Written) (one : PlaceFault)
    → Tells a a (Prints {T = T} (run_of draft seed) (Err (fault_of_placing one)))
placing_prints T draft seed a (place.NoPlace line serial) = nothing_written [] a refl
placing_prints T draft seed a place.OutOfMemory = front_nothing _ a

pub placing_writes_nothing : (one : PlaceFault) → fault_of_placing one ≡ fault.OutputFault → ⊥
placing_writes_nothing (place.NoPlace line serial) is = cc is
placing_writes_nothing place.OutOfMemory is = cc is

-- a run that want of memory cuts off before its first command writes nothing
pub cut_off_prints : {T : Type 0} (run : Result Stretch NoPlace) (result : Result T RunFault) (a : Option Written) → IsErrAnd result (λ (one : RunFault). one ≡ fault.OutOfMemory) → Tells a a (Prints run result)
cut_off_prints {T} run (Ok done) a cut = absurd cut
cut_off_prints {T} run (Err one) a cut = subst (λ (told : RunFault). Tells a a (Prints {T = T} run (Err told))) (sym cut) (front_nothing (pieces_of run) a)
