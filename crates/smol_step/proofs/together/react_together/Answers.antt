use Rattle.std.proofs.Common.{◌<◌, ◌++◌, ◌∷◌, [], ℕ, Bool, cond, List, length, get_or, map, take, ap, sym, ◌∙◌, subst, append_assoc, arith}
use Rattle.std.specs.List.{items_where_true}
use Rattle.std.proofs.lemmas.List.{append-nil, map-append}
use Rattle.smol_types.specs.Limits.{last_serial}
use Rattle.smol_meaning.specs.declared.event.Fired.{Fired}
use Rattle.smol_meaning.specs.Encounters.{Encounter, encounters_of, event_of_two}
use Rattle.smol_meaning.specs.Step.{remains}
use Rattle.smol_pairs.specs.declared.encounter.Encounter.{Encounter as Ranks}
use Rattle.smol_step.specs.Meeting.{IsAt}
use Rattle.smol_step.proofs.Encountered.{encounter_at, fired_count, picked_all, rank_count}
use Rattle.smol_step.proofs.Freed.{free_more}
use Rattle.smol_step.proofs.InPlace.{picked_more}
use Rattle.smol_step.proofs.together.react_together.Goals as goal
use Rattle.smol_step.proofs.together.react_together.Goals.{then-fired-i+in_ok-react, else-fired-i}

nobody : Ranks
nobody = record { rank_a = 0; rank_b = 0; reaction = 0 }

pub react-requires-clause-met : goal.react-requires-clause-met
unfolding nobody
react-requires-clause-met c =
    let at = encounter_at c.args.config.now c.args.streams.now c.args.k c.args.mols.now c.args.encounters.now c.requires.encounters c.loop-i.i nobody c.loop-i-test.true in
    (at.0, subst (λ (seed : ℕ). IsAt c.args.config.now seed c.args.k c.args.mols.now (get_or c.args.encounters.now c.loop-i.i nobody) at.0) (sym c.loop-i.invariant.seed) at.2)

pub bounds-fired-i : goal.bounds-fired-i
bounds-fired-i c =
    omega (arith, c.loop-i-test.true, fired_count c.args.config.now c.args.streams.now c.args.k c.args.mols.now c.args.encounters.now c.requires.encounters c.args.fired.now c.requires.fired)

pub loop-i-preserved : goal.loop-i-preserved
unfolding nobody
loop-i-preserved c =
    let config = c.args.config.now in
    let seed = c.args.streams.now in
    let k = c.args.k in
    let mols = c.args.mols.now in
    let ranks = c.args.encounters.now in
    let fired = c.args.fired.now in
    let here = c.loop-i.i in
    let old = c.args.reacting.now.events.items in
    let encounters = encounters_of config seed k mols in
    let es = items_where_true (take here fired) (take here encounters) in
    let in_ranks : here < length ranks = c.loop-i-test.true in
    let in_fired : here < length fired = omega (arith, in_ranks, fired_count config seed k mols ranks c.requires.encounters fired c.requires.fired) in
    let in_encounters : here < length encounters = omega (arith, in_ranks, rank_count config seed k mols ranks c.requires.encounters) in
    let at = encounter_at config seed k mols ranks c.requires.encounters here nobody in_ranks in
    let e = at.0 in
    let step = picked_more fired encounters here e in_fired in_encounters at.1 in
    let of_ranks = subst (λ (seed : ℕ). IsAt config seed k mols (get_or ranks here nobody) e) (sym c.loop-i.invariant.seed) at.2 in
    elim c.if-fired-i.branch [
      | then-fired-i+in_ok-react w ↦
          let more = step ∙ ap (λ (yes : Bool). es ++ cond yes (e ∷ []) []) w.if-fired-i.true in
          rw (w.streams-is, w.reacting-is) (record {
            events = w.in_ok-react.ensures.event e of_ranks
                ∙ ap (λ (seed : ℕ). c.loop-i.reacting.events.items ++ event_of_two config seed k e ∷ []) c.loop-i.invariant.seed
                ∙ ap (λ (events : List Fired). events ++ event_of_two config seed k e ∷ []) c.loop-i.invariant.events
                ∙ append_assoc old (map (event_of_two config seed k) es) (event_of_two config seed k e ∷ [])
                ∙ ap (λ (events : List Fired). old ++ events) (sym (ap (map (event_of_two config seed k)) more ∙ map-append (event_of_two config seed k) es (e ∷ [])));
            free = w.in_ok-react.ensures.free e of_ranks
                ∙ free_more config seed k mols last_serial es e c.loop-i.reacting.free.items c.requires.moved.serials at.2.met c.loop-i.invariant.free
                ∙ ap (λ (es : List Encounter). map (remains config seed k es) mols) (sym more);
            seed = w.react.ensures.seed ∙ c.loop-i.invariant.seed;
          })
      | else-fired-i w ↦
          let more = step ∙ ap (λ (yes : Bool). es ++ cond yes (e ∷ []) []) w.if-fired-i.false ∙ append-nil es in
          rw (w.streams-is, w.reacting-is) (record {
            events = c.loop-i.invariant.events ∙ ap (λ (es : List Encounter). old ++ map (event_of_two config seed k) es) (sym more);
            free = c.loop-i.invariant.free ∙ ap (λ (es : List Encounter). map (remains config seed k es) mols) (sym more);
            seed = c.loop-i.invariant.seed;
          })
    ]

pub returns-clause-events : goal.returns-clause-events
returns-clause-events c =
    let config = c.args.config.now in
    let seed = c.args.streams.now in
    let k = c.args.k in
    c.loop-i.invariant.events
    ∙ ap (λ (es : List Encounter). c.args.reacting.now.events.items ++ map (event_of_two config seed k) es)
    (picked_all config seed k c.args.mols.now c.args.encounters.now c.requires.encounters c.args.fired.now c.requires.fired c.loop-i.i c.loop-i-test.false)

pub returns-clause-free : goal.returns-clause-free
returns-clause-free c =
    let config = c.args.config.now in
    let seed = c.args.streams.now in
    let k = c.args.k in
    c.loop-i.invariant.free
    ∙ ap (λ (es : List Encounter). map (remains config seed k es) c.args.mols.now)
    (picked_all config seed k c.args.mols.now c.args.encounters.now c.requires.encounters c.args.fired.now c.requires.fired c.loop-i.i c.loop-i-test.false)
