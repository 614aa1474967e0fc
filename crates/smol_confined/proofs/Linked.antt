-- The states of a run hold what was inside before.
use Rattle.std.proofs.Common.{◌≡◌, ℕ, zero, suc, ◌+◌, ◌<◌, Bool, true, false, List, [], ◌∷◌, ◌++◌, All, Some, slice_get, Result, Ok, Err, refl, subst, arith}
use Rattle.std.proofs.lemmas.Option.{get_or_from_slice_get, slice_get_within}
use Rattle.smol_geom.specs.declared.cuboid.Cuboid.{Cuboid}
use Rattle.smol_types.specs.declared.command.Command.{Command}
use Rattle.smol_types.specs.declared.command.Phase.{Phase}
use Rattle.smol_types.specs.declared.command.Phase.TheVariants.{Before, At, After}
use Rattle.smol_types.specs.declared.draft.Draft.{Draft}
use Rattle.smol_types.specs.declared.state.State.{State}
use Rattle.smol_types.specs.Sound.{IsSound}
use Rattle.smol_types.specs.State.{Fits}
use Rattle.smol_meaning.specs.Placed.{IsMoveOf}
use Rattle.smol_meaning.specs.Placement.{NoPlace, opening_state}
use Rattle.smol_meaning.specs.Run.{commands_from, course, phase_of, run_from, run_of, step_of, stepped, steps_from, steps_of}
use Rattle.smol_meaning.specs.Seen.{IsClosedBox}
use Rattle.smol_meaning.specs.Step.{moves_of, next_state}
use Rattle.smol_meaning.specs.Stretch.{Ending, GoesOn, Stopped, Over, Stretch, followed_by, followed_if, resumed}
use Rattle.smol_meaning.specs.Timing.{is_due}
use Rattle.smol_meaning.proofs.Courses.{performed_where, run_is_kept}
use Rattle.smol_confined.specs.Laws.{RunIsConfined}
use Rattle.smol_confined.proofs.Commanding.{Linked, performed_linked}
use Rattle.smol_confined.proofs.Parts.{All-behind, All-front}
use Rattle.smol_confined.proofs.Safe.{Holds, next_holds, safe_in}

module _ (draft : Draft) (sound : IsSound draft) (seed : ℕ) (box : Cuboid) (closed : IsClosedBox draft box) where
  linked_from : (a b : State) (states : List State) (last : State) → Holds box a b → Linked box b states last → Linked box a states last
  linked_from a b [] last holds linked = λ serial safe. linked serial (holds serial safe)
  linked_from a b (next ∷ states) last holds linked = (λ serial safe. linked.0 serial (holds serial safe), linked.1)

  linked_on : (a : State) (xs : List State) (b : State) (ys : List State) (c : State) → Linked box a xs b → Linked box b ys c → Linked box a (xs ++ ys) c
  linked_on a [] b ys c first second = linked_from a b ys c first second
  linked_on a (x ∷ xs) b ys c first second = (first.0, linked_on x xs b ys c first.1 second)

  -- a part of a run from a state on whose ways are defined
  abbrev IsLinked : State → Stretch → Type 0
  IsLinked state part = All (IsMoveOf draft) part.moves → Linked box state part.states part.last

  -- one part behind another
  followed_linked : (state : State) (first : Stretch) (next : State → Stretch) → IsLinked state first → IsLinked first.last (next first.last)
      → IsLinked state (followed_by first next)
  followed_linked state first next before behind = by_ending first.ending
    where
      by_ending : (ending : Ending) → IsLinked state (followed_if first ending next)
      by_ending GoesOn = λ are.
          linked_on state first.states first.last (next first.last).states (next first.last).last
          (before (All-front (IsMoveOf draft) first.moves (next first.last).moves are))
          (behind (All-behind (IsMoveOf draft) first.moves (next first.last).moves are))
      by_ending Stopped = before
      by_ending (Over step) = before

  where_linked : (c : ℕ) (state : State) (command : Command) (due : Bool) → IsLinked state (performed_where draft seed c state command due)
  where_linked c state command true = λ are. performed_linked box draft seed c state command
  where_linked c state command false = λ are serial safe. safe

  commands_linked : (phase : Phase) (c : ℕ) (commands : List Command) (state : State) → IsLinked state (commands_from draft seed phase c commands state)
  commands_linked phase c [] state = λ are serial safe. safe
  commands_linked phase c (command ∷ commands) state =
      let first = performed_where draft seed c state command (is_due draft phase command.«when») in
      followed_linked state first (commands_from draft seed phase (c + 1) commands)
      (where_linked c state command (is_due draft phase command.«when»)) (commands_linked phase (c + 1) commands first.last)

  phase_linked : (phase : Phase) (state : State) → IsLinked state (phase_of draft seed phase state)
  unfolding phase_of
  phase_linked phase state = commands_linked phase 0 draft.commands state

  stepped_linked : (state : State) (result : Result State ℕ) → next_state draft seed state ≡ result → IsLinked state (stepped (moves_of draft seed state) state result)
  stepped_linked state (Ok next) is = λ are. (next_holds draft sound seed box closed state next are is, λ serial safe. safe)
  stepped_linked state (Err found) is = λ are serial safe. safe

  step_linked : (state : State) → IsLinked state (step_of draft seed state)
  unfolding step_of
  step_linked state = stepped_linked state (next_state draft seed state) refl

  steps_linked : (left : ℕ) (state : State) → IsLinked state (steps_from draft seed left state)
  steps_linked zero state = phase_linked (At state.step) state
  steps_linked (suc left) state =
      let due = phase_of draft seed (At state.step) state in
      let one = followed_by due (step_of draft seed) in
      followed_linked state one (steps_from draft seed left)
      (followed_linked state due (step_of draft seed) (phase_linked (At state.step) state) (step_linked due.last))
      (steps_linked left one.last)

  -- each state of a run holds what was inside in each earlier one
  abbrev IsOrdered : List State → Type 0
  IsOrdered states = (i j : ℕ) (earlier later : State) → i < j → slice_get states i ≡ Some earlier → slice_get states j ≡ Some later → Holds box earlier later

  linked_at : (state : State) (states : List State) (last : State) (j : ℕ) (later : State) → Linked box state states last → slice_get states j ≡ Some later
      → Holds box state later
  linked_at state [] last j later linked is = absurd (cc is)
  linked_at state (next ∷ states) last zero later linked is = let same : next ≡ later = cc is in subst (Holds box state) same linked.0
  linked_at state (next ∷ states) last (suc j) later linked is = λ serial safe. linked_at next states last j later linked.1 is serial (linked.0 serial safe)

  ordered : (state : State) (states : List State) (last : State) → Linked box state states last → IsOrdered (state ∷ states)
  ordered state states last linked i zero earlier later less at_i at_j = absurd (omega arith)
  ordered state states last linked zero (suc j) earlier later less at_i at_j =
      let same : state ≡ earlier = cc at_i in
      subst (λ (one : State). Holds box one later) same (linked_at state states last j later linked at_j)
  ordered state [] last linked (suc i) (suc j) earlier later less at_i at_j = absurd (cc at_i)
  ordered state (next ∷ states) last linked (suc i) (suc j) earlier later less at_i at_j =
      ordered next states last linked.1 i j earlier later (omega arith) at_i at_j

  course_ordered : (opening : State) → All (IsMoveOf draft) (course draft seed opening).moves → IsOrdered (course draft seed opening).states
  unfolding course
  course_ordered opening are =
      let before = phase_of draft seed Before opening in
      let part = followed_by before (steps_from draft seed (steps_of draft)) in
      let steps = followed_linked opening before (steps_from draft seed (steps_of draft)) (phase_linked Before opening) (steps_linked (steps_of draft) before.last) in
      let whole = followed_linked opening (resumed part) (phase_of draft seed After) steps (phase_linked After part.last) in
      ordered opening (followed_by (resumed part) (phase_of draft seed After)).states (followed_by (resumed part) (phase_of draft seed After)).last (whole are)

  run_ordered : (opened : Result State NoPlace) (run : Stretch) → run_from draft seed opened ≡ Ok run → All (IsMoveOf draft) run.moves → IsOrdered run.states
  run_ordered (Err none) run ran are = absurd (cc ran)
  run_ordered (Ok opening) run ran are =
      let same : course draft seed opening ≡ run = cc in
      subst (λ (run : Stretch). All (IsMoveOf draft) run.moves → IsOrdered run.states) same (course_ordered opening) are

-- a molecule that is inside in one state of a run is inside in each later one, or gone
pub run_is_confined : (draft : Draft) (seed : ℕ) (run : Stretch) (box : Cuboid) → IsSound draft → run_of draft seed ≡ Ok run → IsClosedBox draft box
    → RunIsConfined run box
unfolding run_of
run_is_confined draft seed run box sound ran closed = λ i j earlier later serial less at_i at_j there.
    let kept = run_is_kept draft seed run sound ran in
    let fits : Fits draft earlier =
    subst (Fits draft) (get_or_from_slice_get run.states i earlier earlier at_i) (kept.0 i earlier (slice_get_within run.states i earlier at_i)) in
    (run_ordered draft sound seed box closed (opening_state draft seed) run ran kept.1 i j earlier later less at_i at_j serial
    (safe_in draft earlier fits box serial there)).inside
