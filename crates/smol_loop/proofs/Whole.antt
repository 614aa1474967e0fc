-- A whole run.
use Rattle.std.proofs.Common.{◌≡◌, ℕ, List, [], refl, sym, ap, Option, Result, Ok, Err}
use Rattle.smol_edge.specs.Outlets.{Appends, Written}
use Rattle.smol_edge.proofs.Pieces.{Appends-nothing}
use Rattle.smol_edge.proofs.Telling.{Tells-same}
use Rattle.smol_types.specs.declared.command.Phase.TheVariants as phase
use Rattle.smol_types.specs.declared.draft.Draft.{Draft}
use Rattle.smol_types.specs.declared.state.Mol.{Mol}
use Rattle.smol_types.specs.declared.state.State.{State}
use Rattle.smol_meaning.specs.Placement.{NoPlace, opened, opened_with, opening_state, placed_from}
use Rattle.smol_meaning.specs.Run.{course, phase_of}
use Rattle.smol_meaning.specs.Stretch.{Stretch, followed_by, resumed, resumed_from}
use Rattle.smol_commands.specs.declared.flow.Flow.{Flow}
use Rattle.smol_commands.specs.declared.flow.Flow.TheVariants.{Go, Stop}
use Rattle.smol_loop.specs.declared.run_fault.RunFault.{RunFault}
use Rattle.smol_loop.specs.declared.run_fault.RunFault.TheVariants as fault
use Rattle.smol_loop.specs.Parts.{EndsPart, Leaves, up_to_end}
use Rattle.smol_loop.proofs.Joining.{Left}

-- whatever stopped a part, the run goes on from its last state
resumed_ends : (part : Stretch) (state : State) (flow : Flow) → EndsPart part state (Ok flow) → EndsPart (resumed part) state (Ok Go)
resumed_ends part state Go ends = (ends.0, ap resumed_from ends.1)
resumed_ends part state Stop ends = (ends.0, ap resumed_from ends.1)

resumed_fault : (part : Stretch) (state : State) (failed : RunFault) → EndsPart part state (Err failed) → EndsPart (resumed part) state (Err failed)
resumed_fault part state (fault.NoPlace line serial) ends = ends
resumed_fault part state (fault.TooManyMolecules step) ends = ap resumed_from ends
resumed_fault part state fault.OutputFault ends = tt
resumed_fault part state fault.OutOfMemory ends = tt

pub resumed_goes_on : {part : Stretch} {state : State} {a b : Option Written} {l m : ℕ} (flow : Flow) → Leaves part (Ok flow) state a b l m → Leaves (resumed part) (Ok Go) state a b l m
resumed_goes_on {part} {state} flow leaves = record { ended = resumed_ends part state flow leaves.ended; given = leaves.given; faults = leaves.faults }

pub resumed_fails : {part : Stretch} {state : State} {a b : Option Written} {l m : ℕ} (failed : RunFault) → Leaves part (Err failed) state a b l m → Leaves (resumed part) (Err failed) state a b l m
resumed_fails {part} {state} failed leaves = record { ended = resumed_fault part state failed leaves.ended; given = leaves.given; faults = leaves.faults }

-- a course is the commands up to the end, and those after it
pub course_left : (draft : Draft) (seed : ℕ) (opening : State) (a : Option Written) (l : ℕ) → Left (followed_by (resumed (up_to_end draft seed opening)) (phase_of draft seed phase.After)) (course draft seed opening) a a l l
unfolding course
course_left draft seed opening a l = record {
  done = [];
  behind = record { pieces = refl; last = refl; ending = refl };
  given = Tells-same a (Appends []) Appends-nothing;
  faults = refl;
}

-- the first step is still to be made at an opening state
pub opening_step : (draft : Draft) (seed : ℕ) (state : State) → opening_state draft seed ≡ Ok state → state.step ≡ 0
unfolding opening_state
opening_step draft seed state is = go (placed_from draft seed 1 draft.placings) is
  where
    go : (placed : Result (List Mol) NoPlace) → opened_with draft placed ≡ Ok state → state.step ≡ 0
    go (Ok mols) is = let same : opened draft mols ≡ state = cc is in sym (ap (λ (s : State). s.step) same)
    go (Err none) is = cc is
