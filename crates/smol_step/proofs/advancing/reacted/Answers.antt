use Rattle.std.proofs.Common.{◌≡◌, ◌+◌, ◌++◌, ◌^◌, Bool, All, List, length, map, ap, sym, ◌∙◌, subst, arith}
use Rattle.std.specs.List.{filter_map, items_where_true}
use Rattle.smol_types.specs.declared.draft.Draft.{Draft}
use Rattle.smol_types.specs.declared.state.Mol.{Mol}
use Rattle.smol_meaning.specs.declared.event.Birth.{Birth}
use Rattle.smol_meaning.specs.declared.event.Fired.{Fired}
use Rattle.smol_meaning.specs.Births.{IsEvent}
use Rattle.smol_meaning.specs.Events.{birth_move, births_of, born}
use Rattle.smol_meaning.specs.Placed.{IsMoveOf}
use Rattle.smol_meaning.specs.Step.{births_in_step, events_of, mols_after, reactions_of_two, remains}
use Rattle.smol_pairs.specs.Moved.{AreMoved}
use Rattle.smol_meaning.proofs.Places.{coordinates_within}
use Rattle.smol_meaning.proofs.Reacting.{events_are, events_few}
use Rattle.smol_meaning.proofs.Stepping.{births_move}
use Rattle.smol_step.proofs.Removed.{picked-filter}
use Rattle.smol_step.proofs.advancing.reacted.Goals as goal

pub react-requires-clause-moved : goal.react-requires-clause-moved
react-requires-clause-moved g c _ _ =
    let config = c.args.setup.now in
    subst (λ (mols : List Mol). AreMoved config mols) (sym c.deref.ensures.value) (record {
      count = c.requires.count;
      serials = c.requires.serials;
      species = λ i d within. (c.requires.placed i d within).species;
      places = λ i d within.
          let stands = (c.requires.placed i d within).place in coordinates_within (2 ^ 57) config.dims _ (omega arith) stands.axes stands.coordinates;
    })

pub births-requires-clause-count : goal.births-requires-clause-count
births-requires-clause-count g c =
    let events = c.deref-2.ensures.value ∙ c.in_ok-reacting.ensures.events ∙ ap (events_of c.args.setup.now c.args.turn.now.seed c.args.turn.now.k) c.deref.ensures.value in
    let few = events_few c.args.setup.now c.args.turn.now.seed c.args.turn.now.k c.args.mols.items in
    omega (arith, ap length events, few, c.requires.count)

pub births-requires-clause-events : goal.births-requires-clause-events
births-requires-clause-events g c =
    let config = c.args.setup.now in
    let events = c.deref-2.ensures.value ∙ c.in_ok-reacting.ensures.events ∙ ap (events_of c.args.setup.now c.args.turn.now.seed c.args.turn.now.k) c.deref.ensures.value in
    subst (λ (draft : Draft). All (IsEvent draft) c.deref-2.result.now) (sym c.config.ensures.value)
    (subst (λ (events : List Fired). All (IsEvent config) events) (sym events) (events_are config c.args.turn.now.seed c.args.turn.now.k c.requires.sound c.args.mols.items))

pub add_newborn-requires : goal.add_newborn-requires
add_newborn-requires g c =
    let config = c.args.setup.now in
    let events = c.deref-2.ensures.value ∙ c.in_ok-reacting.ensures.events ∙ ap (events_of c.args.setup.now c.args.turn.now.seed c.args.turn.now.k) c.deref.ensures.value in
    let births = c.deref-4.ensures.value ∙ c.in_ok-births.ensures.births ∙ (λ i. births_of (c.config.ensures.value i) c.args.next (events i)) in
    let moves = births_move config c.requires.sound c.args.turn.now.seed c.args.turn.now.k (2 ^ 57) c.args.next c.args.mols.items c.requires.placed (omega arith) in
    subst (λ (draft : Draft). All (λ (birth : Birth). IsMoveOf draft (birth_move birth)) c.deref-4.result.now) (sym c.panels.ensures)
    (subst (λ (births : List Birth). All (λ (birth : Birth). IsMoveOf config (birth_move birth)) births) (sym births) moves)

pub returns : goal.returns
returns g c =
    let config = c.args.setup.now in
    let seed = c.args.turn.now.seed in
    let k = c.args.turn.now.k in
    let old = c.args.mols.items in
    let next = c.args.next in
    let events = c.deref-2.ensures.value ∙ c.in_ok-reacting.ensures.events ∙ ap (events_of c.args.setup.now c.args.turn.now.seed c.args.turn.now.k) c.deref.ensures.value in
    let born_all = c.in_ok-births.ensures.births ∙ (λ i. births_of (c.config.ensures.value i) next (events i)) in
    let births = c.deref-4.ensures.value ∙ born_all in
    let free = c.deref-3.ensures.value ∙ c.in_ok-reacting.ensures.free
    ∙ ap (λ (mols : List Mol). map (remains config seed k (reactions_of_two config seed k mols)) mols) c.deref.ensures.value in
    let kept = c.keep_free.ensures ∙ ap (λ (free : List Bool). items_where_true free old) free ∙ picked-filter (remains config seed k (reactions_of_two config seed k old)) old in
    let mols : c.from_vec.result ≡ mols_after config seed k old next =
    c.from_vec.ensures ∙ c.in_ok-add_newborn.ensures
    ∙ (λ i. kept i ++ filter_map (born (c.panels.ensures i)) (births i)) in
    let count : c.len.result ≡ length (births_in_step config seed k old next) =
    let same = ap length born_all in omega (arith, c.len.ensures, same) in
    λ i. record { step = k; mols = mols i; next = next + count i }
