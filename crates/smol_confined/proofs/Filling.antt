-- Where all molecules are inside a closed reflecting box, all are after a step.
use Rattle.std.proofs.Common.{◌≡◌, ℕ, ◌+◌, ◌^◌, List, [], ◌∷◌, length, get_or, All, filter, map, nat_le, Ok, subst}
use Rattle.std.specs.Prelude.{IfSome}
use Rattle.std.specs.List.{filter_map}
use Rattle.std.proofs.lemmas.Bool.{cond_both}
use Rattle.std.proofs.lemmas.List.Elements.{All-append, All-filter, All-head, All-nil, All-tail}
use Rattle.smol_geom.specs.declared.cuboid.Cuboid.{Cuboid}
use Rattle.smol_types.specs.declared.draft.Draft.{Draft}
use Rattle.smol_types.specs.declared.state.Mol.{Mol}
use Rattle.smol_types.specs.declared.state.State.{State}
use Rattle.smol_types.specs.Sound.{IsSound}
use Rattle.smol_meaning.specs.declared.event.Birth.{Birth}
use Rattle.smol_meaning.specs.declared.event.Fired.{Fired}
use Rattle.smol_meaning.specs.Births.{IsEvent}
use Rattle.smol_meaning.specs.Box.{IsInside}
use Rattle.smol_meaning.specs.Encounters.{event_of_two}
use Rattle.smol_meaning.specs.Events.{births_of, births_of_event, born, lone_events, products_of}
use Rattle.smol_meaning.specs.Motion.{diffused, difstep_of}
use Rattle.smol_meaning.specs.Placed.{IsPlaced}
use Rattle.smol_meaning.specs.Run.{run_of}
use Rattle.smol_meaning.specs.Seen.{IsClosedBox}
use Rattle.smol_meaning.specs.Step.{births_in_step, events_of, mols_after, next_state, reacted, reactions_of_two, remains}
use Rattle.smol_meaning.specs.Stretch.{Stretch}
use Rattle.smol_meaning.proofs.Courses.{run_is_kept}
use Rattle.smol_meaning.proofs.Kept.{All-filter_map}
use Rattle.smol_meaning.proofs.Reacting.{events_are, lone_all, two_of_all}
use Rattle.smol_meaning.proofs.Stepping.{diffused_near}
use Rattle.smol_confined.specs.Boxes.{StandsIn}
use Rattle.smol_confined.specs.Laws.{EventsOfRunAreConfined, IsBoxedStep, StepKeepsAllIn, after_motion}
use Rattle.smol_confined.proofs.Making.{StandsNear, born_inside, lone_products_are_confined}
use Rattle.smol_confined.proofs.Moving.{motion_is_confined}
use Rattle.smol_confined.proofs.Pairing.{at_place, pairs_are_confined}
use Rattle.smol_confined.proofs.Safe.{passed}

-- an event inside, near enough for its ways to be defined
abbrev HappensIn : Draft → Cuboid → Fired → Type 0
HappensIn draft box event = StandsNear draft event.start × IsInside box event.start

module _ (draft : Draft) (sound : IsSound draft) (box : Cuboid) (closed : IsClosedBox draft box) where
  -- what is born of events inside is inside
  all_born_inside : (serial : ℕ) (events : List Fired) → All (IsEvent draft) events → All (HappensIn draft box) events
      → All (λ (birth : Birth). IfSome (born draft birth) (StandsIn box)) (births_of draft serial events)
  all_born_inside serial [] are happen = All-nil (λ (birth : Birth). IfSome (born draft birth) (StandsIn box))
  all_born_inside serial (event ∷ events) are happen =
      let here = All-head (HappensIn draft box) event events happen in
      All-append (λ (birth : Birth). IfSome (born draft birth) (StandsIn box)) (births_of_event draft serial event) _
      (born_inside draft sound box closed serial event (All-head (IsEvent draft) event events are) here.0 here.1)
      (all_born_inside (serial + length (products_of draft event.reaction)) events (All-tail (IsEvent draft) event events are)
      (All-tail (HappensIn draft box) event events happen))

  -- all events of molecules inside are inside
  all_happen_in : (seed k : ℕ) (mols : List Mol) → All (IsPlaced draft (2 ^ 57)) mols → All (StandsIn box) mols
      → All (HappensIn draft box) (events_of draft seed k mols)
  all_happen_in seed k mols placed inside =
      let Q : Mol → Type 0 = λ (mol : Mol). StandsNear draft mol.place × StandsIn box mol in
      let there : All Q mols = λ i d within. ((placed i d within).place, inside i d within) in
      All-append (HappensIn draft box) (lone_events draft seed k mols) (map (event_of_two draft seed k) (reactions_of_two draft seed k mols))
      (lone_all draft seed k (HappensIn draft box) Q mols there (λ mol r is within. is))
      (two_of_all draft seed k (HappensIn draft box) mols (λ e is.
      let smaller = nat_le (difstep_of draft e.a.species) (difstep_of draft e.b.species) in
      let first = at_place Q mols e.rank_a e.a is.first there in
      let second = at_place Q mols e.rank_b e.b is.second there in (
        cond_both smaller e.a.place e.b.place (StandsNear draft) (λ here. first.0) (λ other. second.0),
        cond_both smaller e.a.place e.b.place (IsInside box) (λ here. first.1) (λ other. second.1),
      )))

-- where all molecules are inside before a step, all are after it
pub step_keeps_all : (draft : Draft) (seed : ℕ) (state : State) (box : Cuboid) → IsBoxedStep draft state box → StepKeepsAllIn draft seed state box
unfolding next_state
step_keeps_all draft seed state box step = λ next is inside.
    let k = state.step + 1 in
    let mols = after_motion draft seed state in
    let births = births_in_step draft seed k mols state.next in
    let placed = diffused_near draft step.sound seed state step.fits step.left in
    let moved : All (StandsIn box) mols = All-filter_map (diffused draft seed k) (StandsIn box) state.mols
    (λ i d within. motion_is_confined draft seed state box step i d within (inside i d within)) in
    let all : All (StandsIn box) (mols_after draft seed k mols state.next) =
    All-append (StandsIn box) (filter (remains draft seed k (reactions_of_two draft seed k mols)) mols) (filter_map (born draft) births)
    (All-filter (remains draft seed k (reactions_of_two draft seed k mols)) (StandsIn box) mols moved)
    (All-filter_map (born draft) (StandsIn box) births
    (all_born_inside draft step.sound box step.closed state.next (events_of draft seed k mols) (events_are draft seed k step.sound mols)
    (all_happen_in draft step.sound box step.closed seed k mols placed moved))) in
    subst (λ (state : State). All (StandsIn box) state.mols) (passed draft.max_mol (reacted draft seed k mols state.next) next is) all

-- the events of a run
pub events_of_run_are_confined : (draft : Draft) (seed : ℕ) (run : Stretch) (box : Cuboid) → IsSound draft → run_of draft seed ≡ Ok run → IsClosedBox draft box
    → EventsOfRunAreConfined draft seed run box
events_of_run_are_confined draft seed run box sound ran closed = λ i d within left.
    let state = get_or run.states i d in
    let step : IsBoxedStep draft state box = record { sound = sound; fits = (run_is_kept draft seed run sound ran).0 i d within; left = left; closed = closed } in
    (lone_products_are_confined draft seed state box step, pairs_are_confined draft seed state box step)
