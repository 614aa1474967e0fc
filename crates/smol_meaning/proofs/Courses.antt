-- The states of a run fit its configuration, and its ways are defined.
use Rattle.std.proofs.Common.{◌≡◌, ℕ, zero, suc, ◌+◌, ◌*◌, ◌≤◌, Bool, true, false, if◌then◌else◌, List, [], ◌∷◌, length, get_or, All, Result, Ok, Err, refl, sym, ap, subst, arith}
use Rattle.std.specs.Prelude.{nat_lt}
use Rattle.std.specs.List.{list_all}
use Rattle.std.proofs.lemmas.List.Elements.{All-nil, All-cons, All-head, All-tail, All-append}
use Rattle.smol_geom.specs.declared.cuboid.Cuboid.{Cuboid}
use Rattle.smol_types.specs.declared.command.Act.{Act}
use Rattle.smol_types.specs.declared.command.Act.TheVariants as act
use Rattle.smol_types.specs.declared.command.Command.{Command}
use Rattle.smol_types.specs.declared.command.Phase.{Phase}
use Rattle.smol_types.specs.declared.command.Phase.TheVariants.{Before, At, After}
use Rattle.smol_types.specs.declared.draft.Draft.{Draft}
use Rattle.smol_types.specs.declared.state.Mol.{Mol}
use Rattle.smol_types.specs.declared.state.State.{State}
use Rattle.smol_types.specs.Commands.{IsCommand}
use Rattle.smol_types.specs.Limits.{last_serial}
use Rattle.smol_types.specs.Sound.{IsSound}
use Rattle.smol_types.specs.State.{Fits}
use Rattle.smol_types.specs.Steps.{last_step}
use Rattle.smol_meaning.specs.Box.{Confines, IsClosed, IsInside}
use Rattle.smol_meaning.specs.Commands.{effect_of, holds_of, performed, with_more}
use Rattle.smol_meaning.specs.Motion.{Move}
use Rattle.smol_meaning.specs.Placed.{IsMoveOf}
use Rattle.smol_meaning.specs.Placement.{NoPlace, opened, opened_with, opening_state, placed_from}
use Rattle.smol_meaning.specs.Run.{commands_from, course, phase_of, run_from, run_of, step_of, stepped, steps_from}
use Rattle.smol_meaning.specs.Seen.{plates_of}
use Rattle.smol_meaning.specs.Step.{moves_of, next_state}
use Rattle.smol_meaning.specs.Stretch.{Ending, GoesOn, Stopped, Over, Stretch, becomes, followed_by, followed_if, idle, is_over, resumed}
use Rattle.smol_meaning.specs.Timing.{is_due}
use Rattle.smol_meaning.proofs.Confined.{confined}
use Rattle.smol_meaning.proofs.Seeing.{plates_fit}
use Rattle.smol_meaning.proofs.Opening.{opening_fits, opening_next}
use Rattle.smol_meaning.proofs.Performing.{nothing_kept, performed_kept}
use Rattle.smol_meaning.proofs.Stepping.{moves_are, next_fits, next_rises, next_step}

-- a part of a run from a state on: its states fit, its ways are defined, and its last state has not many serials more
pub record Keeps (draft : Draft) (more : ℕ) (state : State) (part : Stretch) : Type 0 where
  pub last : Fits draft part.last
  pub states : All (Fits draft) part.states
  pub moves : All (IsMoveOf draft) part.moves
  pub next : part.last.next ≤ state.next + more

-- where a part goes on, so many steps were made in it
abbrev pub Makes : ℕ → State → Stretch → Type 0
Makes steps state part = part.ending ≡ GoesOn → part.last.step ≡ state.step + steps

-- one part behind another
followed_keeps : (draft : Draft) (a b : ℕ) (state : State) (first : Stretch) (next : State → Stretch) → Keeps draft a state first
    → (first.ending ≡ GoesOn → Keeps draft b first.last (next first.last)) → Keeps draft (a + b) state (followed_by first next)
followed_keeps draft a b state first next kept further = by_ending first.ending refl
  where
    short : (c : ℕ) → c ≤ state.next + a → c ≤ state.next + (a + b)
    short c few = omega arith

    by_ending : (ending : Ending) → first.ending ≡ ending → Keeps draft (a + b) state (followed_if first ending next)
    by_ending GoesOn is =
        let behind = further is in
        record {
          last = behind.last;
          states = All-append (Fits draft) first.states (next first.last).states kept.states behind.states;
          moves = All-append (IsMoveOf draft) first.moves (next first.last).moves kept.moves behind.moves;
          next = omega (arith, kept.next, behind.next);
        }
    by_ending Stopped is = record { last = kept.last; states = kept.states; moves = kept.moves; next = short _ kept.next }
    by_ending (Over step) is = record { last = kept.last; states = kept.states; moves = kept.moves; next = short _ kept.next }

followed_makes : (m n : ℕ) (state : State) (first : Stretch) (next : State → Stretch) → Makes m state first
    → (first.ending ≡ GoesOn → Makes n first.last (next first.last)) → Makes (m + n) state (followed_by first next)
followed_makes m n state first next made further = by_ending first.ending refl
  where
    by_ending : (ending : Ending) → first.ending ≡ ending → Makes (m + n) state (followed_if first ending next)
    by_ending GoesOn is = λ goes. omega (arith, made is, further is goes)
    by_ending Stopped is = λ goes. absurd (stops is goes)
      where
        stops : first.ending ≡ Stopped → first.ending ≡ GoesOn → ⊥
        stops one other = cc
    by_ending (Over step) is = λ goes. absurd (over is goes)
      where
        over : first.ending ≡ Over step → first.ending ≡ GoesOn → ⊥
        over one other = cc

-- no command makes a way
effect_still : (draft : Draft) (seed c : ℕ) (state : State) (does : Act) → (effect_of draft seed c state does).moves ≡ []
unfolding effect_of
effect_still draft seed c state (act.CountHeader out) = refl
effect_still draft seed c state (act.Count out) = refl
effect_still draft seed c state (act.CountIn compartment out) = refl
effect_still draft seed c state (act.List out) = refl
effect_still draft seed c state (act.Positions who out) = refl
effect_still draft seed c state (act.CountSpace who axis low high bins out) = refl
effect_still draft seed c state (act.Moments who out) = refl
effect_still draft seed c state (act.MeanSquare who at out) = refl
effect_still draft seed c state (act.Radial first second radius bins out) = refl
effect_still draft seed c state (act.Echo out text) = refl
effect_still draft seed c state (act.Kill who) = refl
effect_still draft seed c state (act.KillProb who p) = refl
effect_still draft seed c state (act.Replace who to p) = refl
effect_still draft seed c state (act.PointSource species n place) =
    elim (nat_lt draft.max_mol (length state.mols + n)) as
    (λ over. (if over then is_over state state.step else becomes (with_more state species place n)).moves ≡ []) [ true ↦ refl | false ↦ refl ]
effect_still draft seed c state act.Stop = refl

performed_still : (draft : Draft) (seed c : ℕ) (state : State) (command : Command) → (performed draft seed c state command).moves ≡ []
performed_still draft seed c state command =
    elim (list_all (holds_of state.mols) command.tests) as
    (λ holds. (if holds then effect_of draft seed c state command.act else idle state).moves ≡ [])
    [ true ↦ effect_still draft seed c state command.act | false ↦ refl ]

none_move : (draft : Draft) (moves : List Move) → moves ≡ [] → All (IsMoveOf draft) moves
none_move draft moves none = subst (All (IsMoveOf draft)) (sym none) (All-nil (IsMoveOf draft))

-- a command is performed where it is due
abbrev pub performed_where : Draft → ℕ → ℕ → State → Command → Bool → Stretch
performed_where draft seed c state command due = if due then performed draft seed c state command else idle state

where_keeps : (draft : Draft) (seed c : ℕ) (state : State) (command : Command) (due : Bool) → IsSound draft → Fits draft state
    → state.next + 1000000 ≤ last_serial → IsCommand (length draft.species) (length draft.compartments) (length draft.outputs) draft.walls command
    → Keeps draft 1000000 state (performed_where draft seed c state command due) × ((performed_where draft seed c state command due).last.step ≡ state.step)
where_keeps draft seed c state command true sound fits room is =
    let kept = performed_kept draft seed c state command sound fits room is in
    (record { last = kept.last; states = kept.states; moves = none_move draft _ (performed_still draft seed c state command); next = kept.next }, kept.step)
where_keeps draft seed c state command false sound fits room is =
    let kept = nothing_kept draft state fits in
    (record { last = kept.last; states = kept.states; moves = All-nil (IsMoveOf draft); next = kept.next }, kept.step)

abbrev pub AreCommands : Draft → List Command → Type 0
AreCommands draft commands = All (IsCommand (length draft.species) (length draft.compartments) (length draft.outputs) draft.walls) commands

commands_keep : (draft : Draft) (seed : ℕ) (phase : Phase) (c : ℕ) (commands : List Command) (state : State) → IsSound draft → Fits draft state
    → AreCommands draft commands → state.next + 1000000 * length commands ≤ last_serial
    → Keeps draft (1000000 * length commands) state (commands_from draft seed phase c commands state)
    × Makes 0 state (commands_from draft seed phase c commands state)
commands_keep draft seed phase c [] state sound fits are room = (
  record { last = fits; states = All-nil (Fits draft); moves = All-nil (IsMoveOf draft); next = omega arith },
  λ goes. omega arith,
)
commands_keep draft seed phase c (command ∷ commands) state sound fits are room =
    let P = IsCommand (length draft.species) (length draft.compartments) (length draft.outputs) draft.walls in
    let due = is_due draft phase command.«when» in
    let first = performed_where draft seed c state command due in
    let kept = where_keeps draft seed c state command due sound fits (omega arith) (All-head P command commands are) in
    let last_next = kept.0.next in
    let rest = commands_keep draft seed phase (c + 1) commands first.last sound kept.0.last (All-tail P command commands are) (omega arith) in
    let both = followed_keeps draft 1000000 (1000000 * length commands) state first (commands_from draft seed phase (c + 1) commands) kept.0 (λ goes. rest.0) in (
      record { last = both.last; states = both.states; moves = both.moves; next = omega (arith, both.next) },
      λ goes. omega (arith, followed_makes 0 0 state first (commands_from draft seed phase (c + 1) commands) (λ on. omega (arith, kept.1)) (λ on. rest.1) goes),
    )

-- the commands of a phase
phase_keeps : (draft : Draft) (seed : ℕ) (phase : Phase) (state : State) → IsSound draft → Fits draft state → state.next + 256000000 ≤ last_serial
    → Keeps draft 256000000 state (phase_of draft seed phase state) × Makes 0 state (phase_of draft seed phase state)
unfolding phase_of
phase_keeps draft seed phase state sound fits room =
    let few = sound.command_count in
    let kept = commands_keep draft seed phase 0 draft.commands state sound fits sound.commands (omega arith) in
    (record { last = kept.0.last; states = kept.0.states; moves = kept.0.moves; next = omega (arith, kept.0.next) }, kept.1)

stepped_keeps : (draft : Draft) (seed : ℕ) (state : State) (result : Result State ℕ) → next_state draft seed state ≡ result → IsSound draft → Fits draft state
    → state.step + 1 ≤ last_step draft.start draft.stop draft.step → state.next + 16000000 ≤ last_serial
    → Keeps draft 16000000 state (stepped (moves_of draft seed state) state result) × Makes 1 state (stepped (moves_of draft seed state) state result)
stepped_keeps draft seed state (Ok next) is sound fits more room =
    let fits_next = next_fits draft seed state next sound fits more (omega arith) is in (
      record {
        last = fits_next;
        states = All-cons (Fits draft) next [] fits_next (All-nil (Fits draft));
        moves = moves_are draft seed state sound fits more;
        next = next_rises draft seed state next sound fits more is;
      },
      λ goes. next_step draft seed state next is,
    )
stepped_keeps draft seed state (Err found) is sound fits more room = (
  record { last = fits; states = All-nil (Fits draft); moves = moves_are draft seed state sound fits more; next = omega arith },
  λ goes. absurd (over goes),
)
  where
    over : Over (state.step + 1) ≡ GoesOn → ⊥
    over same = cc

step_keeps : (draft : Draft) (seed : ℕ) (state : State) → IsSound draft → Fits draft state → state.step + 1 ≤ last_step draft.start draft.stop draft.step
    → state.next + 16000000 ≤ last_serial → Keeps draft 16000000 state (step_of draft seed state) × Makes 1 state (step_of draft seed state)
unfolding step_of
step_keeps draft seed state sound fits more room = stepped_keeps draft seed state (next_state draft seed state) refl sound fits more room

-- the steps that are left, with the commands that are due
steps_keep : (draft : Draft) (seed left : ℕ) (state : State) → IsSound draft → Fits draft state → state.step + left ≤ last_step draft.start draft.stop draft.step
    → state.next + (272000000 * left + 256000000) ≤ last_serial → Keeps draft (272000000 * left + 256000000) state (steps_from draft seed left state)
steps_keep draft seed zero state sound fits more room =
    let kept = phase_keeps draft seed (At state.step) state sound fits (omega arith) in
    record { last = kept.0.last; states = kept.0.states; moves = kept.0.moves; next = omega (arith, kept.0.next) }
steps_keep draft seed (suc left) state sound fits more room =
    let due = phase_of draft seed (At state.step) state in
    let kept = phase_keeps draft seed (At state.step) state sound fits (omega arith) in
    let due_next = kept.0.next in
    let one = followed_by due (step_of draft seed) in
    let step_is = λ (goes : due.ending ≡ GoesOn). step_keeps draft seed due.last sound kept.0.last (omega (arith, kept.1 goes)) (omega arith) in
    let first = followed_keeps draft 256000000 16000000 state due (step_of draft seed) kept.0 (λ goes. (step_is goes).0) in
    let first_next = first.next in
    let made = followed_makes 0 1 state due (step_of draft seed) kept.1 (λ goes. (step_is goes).1) in
    let both = followed_keeps draft (256000000 + 16000000) (272000000 * left + 256000000) state one (steps_from draft seed left) first
    (λ goes. steps_keep draft seed left one.last sound first.last (omega (arith, made goes)) (omega arith)) in
    record { last = both.last; states = both.states; moves = both.moves; next = omega (arith, both.next) }

resumed_keeps : (draft : Draft) (more : ℕ) (state : State) (part : Stretch) → Keeps draft more state part → Keeps draft more state (resumed part)
resumed_keeps draft more state part kept = record { last = kept.last; states = kept.states; moves = kept.moves; next = kept.next }

-- a whole run from its opening state on
course_keeps : (draft : Draft) (seed : ℕ) (opening : State) → IsSound draft → Fits draft opening → opening.step ≡ 0 → opening.next ≤ 1000001
    → All (Fits draft) (course draft seed opening).states × All (IsMoveOf draft) (course draft seed opening).moves
unfolding course
course_keeps draft seed opening sound fits first few =
    let last = last_step draft.start draft.stop draft.step in
    let most = sound.steps in
    let before = phase_of draft seed Before opening in
    let kept = phase_keeps draft seed Before opening sound fits (omega arith) in
    let before_next = kept.0.next in
    let steps = followed_keeps draft 256000000 (272000000 * last + 256000000) opening before (steps_from draft seed last) kept.0
    (λ goes. steps_keep draft seed last before.last sound kept.0.last (omega (arith, kept.1 goes)) (omega arith)) in
    let steps_next = steps.next in
    let part = followed_by before (steps_from draft seed last) in
    let whole = followed_keeps draft (256000000 + (272000000 * last + 256000000)) 256000000 opening (resumed part) (phase_of draft seed After)
    (resumed_keeps draft _ opening part steps) (λ goes. (phase_keeps draft seed After part.last sound steps.last (omega arith)).0) in
    (All-cons (Fits draft) opening _ fits whole.states, whole.moves)

opened_step : (draft : Draft) (placed : Result (List Mol) NoPlace) (opening : State) → opened_with draft placed ≡ Ok opening → opening.step ≡ 0
opened_step draft (Err none) opening is = absurd (cc is)
opened_step draft (Ok mols) opening is = let same : opened draft mols ≡ opening = cc in sym (ap (λ (state : State). state.step) same)

opened_at_0 : (draft : Draft) (seed : ℕ) (opening : State) → opening_state draft seed ≡ Ok opening → opening.step ≡ 0
unfolding opening_state
opened_at_0 draft seed opening is = opened_step draft (placed_from draft seed 1 draft.placings) opening is

run_keeps : (draft : Draft) (seed : ℕ) (opened : Result State NoPlace) (run : Stretch) → opening_state draft seed ≡ opened → IsSound draft
    → run_from draft seed opened ≡ Ok run → All (Fits draft) run.states × All (IsMoveOf draft) run.moves
run_keeps draft seed (Err none) run is sound ran = absurd (cc ran)
run_keeps draft seed (Ok opening) run is sound ran =
    let kept = course_keeps draft seed opening sound (opening_fits draft seed opening sound is) (opened_at_0 draft seed opening is) (opening_next draft seed opening sound is) in
    let same : course draft seed opening ≡ run = cc in
    subst (λ (run : Stretch). All (Fits draft) run.states × All (IsMoveOf draft) run.moves) same kept

-- each state of a run fits its configuration, and each of its ways is one that is defined
pub run_is_kept : (draft : Draft) (seed : ℕ) (run : Stretch) → IsSound draft → run_of draft seed ≡ Ok run
    → All (Fits draft) run.states × All (IsMoveOf draft) run.moves
unfolding run_of
run_is_kept draft seed run sound ran = run_keeps draft seed (opening_state draft seed) run refl sound ran

-- what starts inside a closed reflecting box stays in it on each way of a run
pub run_confines : (draft : Draft) (seed : ℕ) (run : Stretch) → IsSound draft → run_of draft seed ≡ Ok run
    → All (λ (move : Move). (among : ℕ → Bool) (box : Cuboid) → among move.species ≡ true → IsClosed draft.dims (plates_of draft) among box
    → IsInside box move.from → Confines (plates_of draft) move.species move.from move.by box) run.moves
run_confines draft seed run sound ran = λ i d within among box kin closed inside.
    confined draft.dims (plates_of draft) among box (get_or run.moves i d).from (get_or run.moves i d).by
    ((run_is_kept draft seed run sound ran).1 i d within).goes (plates_fit draft sound) closed (get_or run.moves i d).species kin inside
