-- What effects of commands come to.
use Rattle.std.proofs.Common.{◌≡◌, ℕ, ◌^◌, ◌≤◌, ◌<◌, Bool, Option, None, Some, Result, Ok, Err, IfOk, OnOk, ◌+◌, ap, ◌∙◌, List, [], ◌∷◌, All, length, get_or, refl, sym, subst, arith, if◌then◌else◌}
use Rattle.std.specs.List.{list_all, slice_get}
use Rattle.std.specs.Option.{option_map_or}
use Rattle.std.proofs.lemmas.Option.{slice_get_read, slice_get_within, get_or_from_slice_get}
use Rattle.smol_geom.specs.Axes.{IsWithin}
use Rattle.smol_types.specs.declared.command.Command.{Command}
use Rattle.smol_meaning.specs.Commands.{effect_of, holds_of, performed}
use Rattle.std.proofs.lemmas.List.{append-nil}
use Rattle.smol_types.specs.declared.draft.Draft.{Draft}
use Rattle.smol_types.specs.declared.state.Mol.{Mol}
use Rattle.smol_types.specs.declared.state.State.{State}
use Rattle.smol_types.specs.Limits.{last_serial, most_molecules}
use Rattle.smol_types.specs.Commands.{IsCommand}
use Rattle.smol_types.specs.Sound.{IsSound}
use Rattle.smol_types.specs.State.{Fits, reach}
use Rattle.smol_meaning.specs.Sighted.{IsPlaceWithin}
use Rattle.smol_meaning.specs.Stretch.{Stretch, becomes, idle, prints, stops}
use Rattle.smol_meaning.proofs.Places.{coordinates_within, place_within_more}
use Rattle.smol_meaning.proofs.Performing.{KeepsStep, PrintsOnce, nothing_kept, nothing_printed, performed_kept, performed_prints}
use Rattle.smol_commands.specs.declared.flow.Flow.{Flow}
use Rattle.smol_commands.specs.declared.flow.Flow.TheVariants.{Go, Stop}
use Rattle.smol_commands.specs.Performs.{Adds, Performs, performed_at}

pub adds_nothing : (pages : List (List ℕ)) → Adds [] pages pages
adds_nothing pages = record { count = refl; pages = λ outlet within. sym (append-nil (get_or pages outlet [])) }

-- a piece was put on its page
pub performs_printed : (stretch : Stretch) (state : State) (outlet : ℕ) (text : List ℕ) (old new : List (List ℕ)) → prints state outlet text ≡ stretch → Adds ((outlet, text) ∷ []) old new → Performs stretch state old new Go
performs_printed stretch state outlet text old new is adds =
    subst (λ stretch. Performs stretch state old new Go) is (record { state = refl; pages = adds; ending = refl })

-- the state became another one
pub performs_moved : (stretch : Stretch) (state : State) (pages : List (List ℕ)) → becomes state ≡ stretch → Performs stretch state pages pages Go
performs_moved stretch state pages is =
    subst (λ stretch. Performs stretch state pages pages Go) is (record { state = refl; pages = adds_nothing pages; ending = refl })

pub performs_stopped : (stretch : Stretch) (state : State) (pages : List (List ℕ)) → stops state ≡ stretch → Performs stretch state pages pages Stop
performs_stopped stretch state pages is =
    subst (λ stretch. Performs stretch state pages pages Stop) is (record { state = refl; pages = adds_nothing pages; ending = refl })

pub performs_idle : (stretch : Stretch) (state : State) (pages : List (List ℕ)) → idle state ≡ stretch → Performs stretch state pages pages Go
performs_idle stretch state pages is =
    subst (λ stretch. Performs stretch state pages pages Go) is (record { state = refl; pages = adds_nothing pages; ending = refl })

-- the molecules of a state that fits stand where compartments are looked at
pub mols_within : (draft : Draft) (state : State) → IsSound draft → Fits draft state → All (λ (mol : Mol). IsPlaceWithin (2 ^ 57) mol.place) state.mols
mols_within draft state sound fits i d within =
    let steps = sound.steps in
    let step = fits.step in
    let place = (get_or state.mols i d).place in
    place_within_more (reach state.step) (2 ^ 57) place (omega arith)
    (coordinates_within (reach state.step) draft.dims place (omega arith) (fits.axes i d within) (fits.places i d within))

-- and no farther from the origin than their sums ask for
pub mols_near : (draft : Draft) (state : State) → IsSound draft → Fits draft state → All (λ (mol : Mol). IsWithin (2 ^ 57) mol.place.0) state.mols
mols_near draft state sound fits i d within = (mols_within draft state sound fits i d within).size

pub mols_nearer : (draft : Draft) (state : State) → IsSound draft → Fits draft state → All (λ (mol : Mol). IsWithin (2 ^ 58) mol.place.0) state.mols
mols_nearer draft state sound fits i d within =
    let near = mols_near draft state sound fits i d within in
    let x = near.0 in
    let y = near.1 in
    let z = near.2 in
    (omega arith, omega arith, omega arith)

pub few_molecules : (draft : Draft) (state : State) → IsSound draft → Fits draft state → length state.mols ≤ most_molecules
few_molecules draft state sound fits = let count = fits.count in let most = sound.max_below in omega arith

-- what the command of a number does, by whether its tests hold
pub performed_by_tests : (draft : Draft) (seed c : ℕ) (state : State) (commands : List Command) (command : Command) (held : Bool) → commands ≡ draft.commands → c < length draft.commands → command ≡ get_or commands c command → list_all (holds_of state.mols) command.tests ≡ held → performed_at draft seed c state ≡ (if held then effect_of draft seed c state command.act else idle state)
performed_by_tests draft seed c state commands command held same within is tested =
    ap (λ (found : Option Command). option_map_or (performed draft seed c state) found (idle state))
    (slice_get_read draft.commands (length draft.commands) c command refl within (is ∙ ap (λ all. get_or all c command) same))
    ∙ ap (λ (b : Bool). if b then effect_of draft seed c state command.act else idle state) tested

found_kept : (draft : Draft) (seed c : ℕ) (state : State) (found : Option Command) → IsSound draft → Fits draft state → state.next + 1000000 ≤ last_serial → slice_get draft.commands c ≡ found → KeepsStep draft state 1000000 (option_map_or (performed draft seed c state) found (idle state))
found_kept draft seed c state None sound fits room found = nothing_kept draft state fits
found_kept draft seed c state (Some command) sound fits room found =
    performed_kept draft seed c state command sound fits room
    (subst (IsCommand (length draft.species) (length draft.compartments) (length draft.outputs) draft.walls) (get_or_from_slice_get draft.commands c command command found)
    (sound.commands c command (slice_get_within draft.commands c command found)))

-- a command keeps its step: its state fits, and not many serials are given
pub performed_at_kept : (draft : Draft) (seed c : ℕ) (state : State) → IsSound draft → Fits draft state → state.next + 1000000 ≤ last_serial → KeepsStep draft state 1000000 (performed_at draft seed c state)
performed_at_kept draft seed c state sound fits room = found_kept draft seed c state (slice_get draft.commands c) sound fits room refl

found_prints : (draft : Draft) (seed c : ℕ) (state : State) (found : Option Command) → IsSound draft → slice_get draft.commands c ≡ found → PrintsOnce (2 + length draft.outputs) (option_map_or (performed draft seed c state) found (idle state))
found_prints draft seed c state None sound found = nothing_printed (2 + length draft.outputs) state
found_prints draft seed c state (Some command) sound found =
    performed_prints draft seed c state command
    (subst (IsCommand (length draft.species) (length draft.compartments) (length draft.outputs) draft.walls) (get_or_from_slice_get draft.commands c command command found)
    (sound.commands c command (slice_get_within draft.commands c command found)))

-- a command prints one piece at most, and none where it is over
pub performed_at_prints : (draft : Draft) (seed c : ℕ) (state : State) → IsSound draft → PrintsOnce (2 + length draft.outputs) (performed_at draft seed c state)
performed_at_prints draft seed c state sound = found_prints draft seed c state (slice_get draft.commands c) sound refl

-- what performing leaves fits
pub left_fits : {E : Type 0} (draft : Draft) (seed c : ℕ) (state left : State) (old new : List (List ℕ)) (result : Result Flow E) → IsSound draft → Fits draft state → state.next + 1000000 ≤ last_serial → IfOk result (Performs (performed_at draft seed c state) left old new) → OnOk result (Fits draft left)
left_fits draft seed c state left old new (Ok flow) sound fits room performs =
    subst (Fits draft) (sym performs.state) (performed_at_kept draft seed c state sound fits room).last
left_fits draft seed c state left old new (Err e) sound fits room performs = tt

pub left_serials : {E : Type 0} (draft : Draft) (seed c : ℕ) (state left : State) (old new : List (List ℕ)) (result : Result Flow E) → IsSound draft → Fits draft state → state.next + 1000000 ≤ last_serial → IfOk result (Performs (performed_at draft seed c state) left old new) → OnOk result (left.next ≤ state.next + 1000000)
left_serials draft seed c state left old new (Ok flow) sound fits room performs =
    let next = (performed_at_kept draft seed c state sound fits room).next in
    omega (arith, next, ap (λ (state : State). state.next) performs.state)
left_serials draft seed c state left old new (Err e) sound fits room performs = tt

pub ruleset performs = (performs_printed, performs_moved, performs_stopped, performs_idle, mols_within, mols_near, mols_nearer, few_molecules)
