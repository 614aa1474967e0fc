-- One step of a run: motion, reactions of one molecule, reactions of two, births and the limit.
use Rattle.std.specs.Prelude.{ℕ, ◌+◌, ◌&&◌, Bool, not, nat_lt, List, ◌++◌, length, Result, Ok, Err, if◌then◌else◌, filter, map}
use Rattle.std.specs.List.{filter_map}
use Rattle.smol_types.specs.declared.draft.Draft.{Draft}
use Rattle.smol_types.specs.declared.state.Mol.{Mol}
use Rattle.smol_types.specs.declared.state.State.{State}
use Rattle.smol_meaning.specs.declared.event.Birth.{Birth}
use Rattle.smol_meaning.specs.declared.event.Fired.{Fired}
use Rattle.smol_meaning.specs.Encounters.{Encounter, encounters_of, event_of_two, reacting, takes_part}
use Rattle.smol_meaning.specs.Events.{birth_move, births_of, born, is_free, lone_events}
use Rattle.smol_meaning.specs.Motion.{Move, all_diffused, diffusion}

-- the encounters that come to a reaction in step k, of these molecules after motion
abbrev pub reactions_of_two : Draft → ℕ → ℕ → List Mol → List Encounter
reactions_of_two draft seed k mols = reacting (encounters_of draft seed k mols)

-- all events of step k: those of single molecules, and then those of two
abbrev pub events_of : Draft → ℕ → ℕ → List Mol → List Fired
events_of draft seed k mols = lone_events draft seed k mols ++ map (event_of_two draft seed k) (reactions_of_two draft seed k mols)

-- whether a molecule reacts neither alone nor in these encounters
abbrev pub remains : Draft → ℕ → ℕ → List Encounter → Mol → Bool
remains draft seed k encounters mol = is_free draft seed k mol && not (takes_part encounters mol)

-- what is born in step k, of these molecules after motion, with serials from this one on
abbrev pub births_in_step : Draft → ℕ → ℕ → List Mol → ℕ → List Birth
births_in_step draft seed k mols next = births_of draft next (events_of draft seed k mols)

-- the molecules at the end of step k: those that didn't react, and the products that weren't absorbed
abbrev pub mols_after : Draft → ℕ → ℕ → List Mol → ℕ → List Mol
mols_after draft seed k mols next =
    filter (remains draft seed k (reactions_of_two draft seed k mols)) mols
    ++ filter_map (born draft) (births_in_step draft seed k mols next)

-- a state within the limit of molecules, or the count that passes it
abbrev pub within_limit : ℕ → State → Result State ℕ
within_limit most state = if nat_lt most (length state.mols) then Err (length state.mols) else Ok state

-- step k from these molecules after motion on
abbrev pub reacted : Draft → ℕ → ℕ → List Mol → ℕ → State
reacted draft seed k mols next = record {
  step = k;
  mols = mols_after draft seed k mols next;
  next = next + length (births_in_step draft seed k mols next);
}

-- the state after one step more, or the count of molecules that passes the limit. Steps count from 1
unfoldable pub next_state : Draft → ℕ → State → Result State ℕ
next_state draft seed state =
    within_limit draft.max_mol (reacted draft seed (state.step + 1) (all_diffused draft seed (state.step + 1) state.mols) state.next)

-- the ways of a step: those of its motion, and those of its products
unfoldable pub moves_of : Draft → ℕ → State → List Move
moves_of draft seed state =
    let k = state.step + 1 in
    map (diffusion draft seed k) state.mols
    ++ map birth_move (births_in_step draft seed k (all_diffused draft seed k state.mols) state.next)
