-- The commands of a phase, one after the other.
use Rattle.std.proofs.Common.{◌≡◌, ℕ, zero, suc, ◌+◌, ◌≤◌, ◌<◌, List, [], ◌∷◌, length, drop, arith, refl, sym, ap, subst, ◌∙◌, Option, None, Some, Ok}
use Rattle.std.specs.Prelude.{slice_get}
use Rattle.std.specs.Option.{option_map_or}
use Rattle.std.proofs.lemmas.List.{drop_all, drop_more}
use Rattle.std.proofs.lemmas.Option.{get_or_from_slice_get, slice_get_within}
use Rattle.smol_edge.specs.Outlets.{Appends, Written}
use Rattle.smol_edge.proofs.Pieces.{Appends-nothing}
use Rattle.smol_edge.proofs.Telling.{Tells-same}
use Rattle.smol_types.specs.declared.command.Command.{Command}
use Rattle.smol_types.specs.declared.command.Phase.{Phase}
use Rattle.smol_types.specs.declared.draft.Draft.{Draft}
use Rattle.smol_types.specs.declared.state.State.{State}
use Rattle.smol_types.specs.Commands.{IsCommand}
use Rattle.smol_types.specs.Limits.{last_serial}
use Rattle.smol_types.specs.Sound.{IsSound}
use Rattle.smol_types.specs.State.{Fits}
use Rattle.smol_meaning.specs.Commands.{performed}
use Rattle.smol_meaning.specs.Run.{commands_from}
use Rattle.smol_meaning.specs.Stretch.{Stretch, followed_by, idle}
use Rattle.smol_meaning.proofs.Performing.{KeepsStep, nothing_kept, performed_kept}
use Rattle.smol_commands.specs.declared.flow.Flow.TheVariants.{Go}
use Rattle.smol_commands.specs.Performs.{performed_at}
use Rattle.smol_loop.specs.Due.{due_at, performed_if_due}
use Rattle.smol_loop.specs.Parts.{Leaves}
use Rattle.smol_loop.proofs.Joining.{Left, last_leaves}

-- the next command of a phase, and then the others
phase_next : (draft : Draft) (seed : ℕ) (phase : Phase) (c : ℕ) (state : State) (command : Command) → slice_get draft.commands c ≡ Some command → commands_from draft seed phase c (drop c draft.commands) state ≡ followed_by (due_at draft seed phase c state) (commands_from draft seed phase (c + 1) (drop (c + 1) draft.commands))
phase_next draft seed phase c state command read =
    ap (λ (l : List Command). commands_from draft seed phase c l state)
    (drop_more draft.commands c command (slice_get_within draft.commands c command read)
    ∙ ap (λ (one : Command). one ∷ drop (c + 1) draft.commands) (get_or_from_slice_get draft.commands c command command read))
    ∙ sym (ap (λ (found : Option Command). followed_by (option_map_or (performed_if_due draft seed phase c state) found (idle state)) (commands_from draft seed phase (c + 1) (drop (c + 1) draft.commands))) read)

found_kept : (draft : Draft) (seed : ℕ) (c : ℕ) (state : State) (found : Option Command) → IsSound draft → Fits draft state → state.next + 1000000 ≤ last_serial → slice_get draft.commands c ≡ found → KeepsStep draft state 1000000 (option_map_or (performed draft seed c state) found (idle state))
found_kept draft seed c state None sound fits room found = nothing_kept draft state fits
found_kept draft seed c state (Some command) sound fits room found =
    performed_kept draft seed c state command sound fits room
    (subst (IsCommand (length draft.species) (length draft.compartments) (length draft.outputs) draft.walls) (get_or_from_slice_get draft.commands c command command found)
    (sound.commands c command (slice_get_within draft.commands c command found)))

-- a command leaves the step as it was
pub step_stays : (draft : Draft) (seed : ℕ) (c : ℕ) (state left : State) → IsSound draft → Fits draft state → state.next + 1000000 ≤ last_serial → left ≡ (performed_at draft seed c state).last → left.step ≡ state.step
step_stays draft seed c state left sound fits room is =
    let kept = found_kept draft seed c state (slice_get draft.commands c) sound fits room refl in
    ap (λ (s : State). s.step) is ∙ kept.step

slice_get_there : (xs : List Command) (k : ℕ) → k < length xs → slice_get xs k ≡ None → ⊥
slice_get_there [] k below none = absurd (omega arith)
slice_get_there (x ∷ xs) zero below none = cc none
slice_get_there (x ∷ xs) (suc k) below none = slice_get_there xs k (omega arith) none

-- what follows the command of a number
abbrev pub after_command : Draft → ℕ → Phase → ℕ → State → Stretch
after_command draft seed phase c = commands_from draft seed phase (c + 1) (drop (c + 1) draft.commands)

-- the command of this number with what follows it is what is left of the phase
pub phase_rest : (draft : Draft) (seed : ℕ) (phase : Phase) (c : ℕ) (state : State) (total : Stretch) (a b : Option Written) (l m : ℕ) → c < length draft.commands → Left (commands_from draft seed phase c (drop c draft.commands) state) total a b l m → Left (followed_by (due_at draft seed phase c state) (after_command draft seed phase c)) total a b l m
phase_rest draft seed phase c state total a b l m within left =
    read_rest (slice_get draft.commands c) refl
  where
    read_rest : (found : Option Command) → slice_get draft.commands c ≡ found → Left (followed_by (due_at draft seed phase c state) (after_command draft seed phase c)) total a b l m
    read_rest None found = absurd (slice_get_there draft.commands c within found)
    read_rest (Some command) found =
        subst (λ (rest : Stretch). Left rest total a b l m) (phase_next draft seed phase c state command found) left

-- all commands were performed: nothing is left
pub phase_done : (draft : Draft) (seed : ℕ) (phase : Phase) (c : ℕ) (state : State) (total : Stretch) (a b : Option Written) (l m : ℕ) → length draft.commands ≤ c → Left (commands_from draft seed phase c (drop c draft.commands) state) total a b l m → Leaves total (Ok Go) state a b l m
phase_done draft seed phase c state total a b l m past left =
    last_leaves {one = idle state} (Ok Go)
    (subst (λ (rest : Stretch). Left rest total a b l m) (ap (λ (rest : List Command). commands_from draft seed phase c rest state) (drop_all c draft.commands past)) left)
    (record { ended = (refl, refl); given = Tells-same b (Appends []) Appends-nothing; faults = refl })
