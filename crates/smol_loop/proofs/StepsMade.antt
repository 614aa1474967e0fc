-- The steps of a run, one after the other.
use Rattle.std.proofs.Common.{◌≡◌, ℕ, suc, ◌+◌, ◌-◌, ◌<◌, List, [], arith, refl, subst, Option, Result, Ok, Err, OnOk, IsErrOf}
use Rattle.smol_edge.specs.Faults.{Tells}
use Rattle.smol_edge.specs.Outlets.{Piece, Written}
use Rattle.smol_types.specs.declared.command.Phase.TheVariants as phase
use Rattle.smol_types.specs.declared.draft.Draft.{Draft}
use Rattle.smol_types.specs.declared.state.State.{State}
use Rattle.smol_meaning.specs.Run.{phase_of, step_of, stepped, steps_from, steps_of}
use Rattle.smol_meaning.specs.Motion.{Move}
use Rattle.smol_meaning.specs.Step.{moves_of, next_state}
use Rattle.smol_meaning.specs.Stretch.{Stretch, followed_by}
use Rattle.smol_commands.specs.declared.flow.Flow.{Flow}
use Rattle.smol_loop.specs.declared.run_fault.RunFault.{RunFault}
use Rattle.smol_loop.specs.declared.run_fault.RunFault.TheVariants as fault
use Rattle.smol_loop.specs.Parts.{CountsFault, EndsPart, GivesPart, Leaves, one_step}
use Rattle.smol_loop.proofs.Joining.{Left, all_left}
use Rattle.smol_loop.proofs.Lone.{front_nothing, nothing_written}

-- all steps are left
pub steps_begin : (draft : Draft) (seed : ℕ) (first : State) (a : Option Written) (l : ℕ) → Left (steps_from draft seed (steps_of draft - 0) first) (steps_from draft seed (steps_of draft) first) a a l l
steps_begin draft seed first a l =
    let all : steps_of draft ≡ steps_of draft - 0 = omega arith in
    subst (λ (left : ℕ). Left (steps_from draft seed left first) (steps_from draft seed (steps_of draft) first) a a l l) all
    (all_left (steps_from draft seed (steps_of draft) first) a l)

-- a step with what follows it is what is left of the steps
pub steps_rest : (draft : Draft) (seed made : ℕ) (state : State) (total : Stretch) (a b : Option Written) (l m : ℕ) → made < steps_of draft → Left (steps_from draft seed (steps_of draft - made) state) total a b l m → Left (followed_by (one_step draft seed state) (steps_from draft seed (steps_of draft - (made + 1)))) total a b l m
steps_rest draft seed made state total a b l m within left =
    let more : steps_of draft - made ≡ suc (steps_of draft - (made + 1)) = omega arith in
    subst (λ (n : ℕ). Left (steps_from draft seed n state) total a b l m) more left

-- all steps were made: what is left are the commands that are due after the last one
pub steps_made : (draft : Draft) (seed made k : ℕ) (state : State) (total : Stretch) (a b : Option Written) (l m : ℕ) → steps_of draft ≡ made → state.step ≡ k → Left (steps_from draft seed (steps_of draft - made) state) total a b l m → Left (phase_of draft seed (phase.At k) state) total a b l m
steps_made draft seed made k state total a b l m all same left =
    let none : steps_of draft - made ≡ 0 = omega arith in
    subst (λ (k : ℕ). Left (phase_of draft seed (phase.At k) state) total a b l m) same
    (subst (λ (n : ℕ). Left (steps_from draft seed n state) total a b l m) none left)

stepped_silent : (moves : List Move) (state : State) (next : Result State ℕ) → (stepped moves state next).pieces ≡ []
stepped_silent moves state (Ok next) = refl
stepped_silent moves state (Err found) = refl

-- a step prints nothing
step_silent : (draft : Draft) (seed : ℕ) (state : State) → (step_of draft seed state).pieces ≡ []
unfolding step_of
step_silent draft seed state = stepped_silent (moves_of draft seed state) state (next_state draft seed state)

-- where a part prints nothing, nothing is written, however it ends
silent_part : (pieces : List Piece) (result : Result Flow RunFault) (a : Option Written) → pieces ≡ [] → Tells a a (GivesPart pieces result)
silent_part pieces (Ok flow) a none = nothing_written pieces a none
silent_part pieces (Err (fault.NoPlace line serial)) a none = nothing_written pieces a none
silent_part pieces (Err (fault.TooManyMolecules step)) a none = nothing_written pieces a none
silent_part pieces (Err fault.OutputFault) a none = front_nothing pieces a
silent_part pieces (Err fault.OutOfMemory) a none = front_nothing pieces a

count_stays : (result : Result Flow RunFault) (l : ℕ) → (IsErrOf result fault.OutputFault → ⊥) → CountsFault result l l
count_stays (Ok flow) l no_output = refl
count_stays (Err (fault.NoPlace line serial)) l no_output = refl
count_stays (Err (fault.TooManyMolecules step)) l no_output = refl
count_stays (Err fault.OutputFault) l no_output = absurd (no_output refl)
count_stays (Err fault.OutOfMemory) l no_output = refl

-- a step leaves its state, and outlets as they were
pub step_leaves : (draft : Draft) (seed : ℕ) (state last : State) (a : Option Written) (l : ℕ) (result : Result Flow RunFault) → EndsPart (step_of draft seed state) last result → (IsErrOf result fault.OutputFault → ⊥) → Leaves (step_of draft seed state) result last a a l l
step_leaves draft seed state last a l result ended no_output = record {
  ended = ended;
  given = silent_part (step_of draft seed state).pieces result a (step_silent draft seed state);
  faults = count_stays result l no_output;
}

-- what follows from a fact at Ok holds there
pub at_ok : {T E : Type 0} (result : Result T E) (P Q : Type 0) → (P → Q) → OnOk result P → OnOk result Q
at_ok (Ok x) P Q follows fact = follows fact
at_ok (Err e) P Q follows fact = tt
