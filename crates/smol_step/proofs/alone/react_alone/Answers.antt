use Rattle.std.proofs.Common.{◌≡◌, ◌++◌, ◌∷◌, [], ℕ, Bool, true, false, not, refl, List, Option, Some, None, get_or, map, take, ap, sym, ◌∙◌}
use Rattle.std.specs.Prelude.{is_none, is_some}
use Rattle.std.specs.List.{cons_option}
use Rattle.std.specs.Option.{option_map}
use Rattle.std.proofs.lemmas.List.{append-nil, get_or-map, get_or_default, map_more}
use Rattle.smol_types.specs.declared.state.Mol.{Mol}
use Rattle.smol_meaning.specs.declared.event.Fired.{Fired}
use Rattle.smol_meaning.specs.Events.{event_of_one, is_free, lone_event, lone_events, lone_reaction}
use Rattle.smol_step.proofs.InPlace.{filter_map-more}
use Rattle.smol_step.proofs.alone.react_alone.Goals as goal
use Rattle.smol_step.proofs.alone.react_alone.Goals.{in-Some+in_ok-push, in_default}

none_is : (one : Option ℕ) (b : Bool) → is_some one ≡ not b → b ≡ is_none one
none_is None true is = refl
none_is None false is = absurd (cc is)
none_is (Some r) true is = absurd (cc is)
none_is (Some r) false is = refl

pub loop-i-preserved : goal.loop-i-preserved
loop-i-preserved c =
    let config = c.args.config.now in
    let seed = c.args.streams.now in
    let k = c.args.k in
    let mols = c.args.mols.now in
    let here = c.loop-i.i in
    let nobody : Mol = record { serial = 0; species = 0; place = record { 0 = [] } } in
    let m = get_or mols here nobody in
    let within = c.loop-i-test.true in
    let is = get_or_default mols here nobody m within in
    let made = event_of_one config seed k in
    let chosen = lone_reaction config seed k in
    let so_far = lone_events config seed k (take here mols) in
    let step = filter_map-more made mols here m within is in
    let drawn = sym (get_or-map chosen mols here nobody None within) ∙ ap (λ (reactions : List (Option ℕ)). get_or reactions here None) (sym c.requires) in
    let free = map_more (is_free config seed k) mols here nobody within in
    let frees = map (is_free config seed k) (take here mols) in
    let pushed = c.in_ok-push-2.ensures.items ∙ ap (λ (bs : List Bool). bs ++ c.is_none.result ∷ []) c.loop-i.invariant.free in
    elim c.match-reaction.branch [
      | in-Some+in_ok-push w ↦
          let some = drawn ∙ w.in-Some.is in
          let event = w.fired_of_one.ensures.event ∙ ap (λ (seed : ℕ). lone_event config seed k m w.in-Some.r) c.loop-i.invariant.seed in
          rw (w.streams-is, w.events-is) (record {
            free = pushed ∙ ap (λ (b : Bool). frees ++ b ∷ []) (none_is c.match-reaction.reaction c.is_none.result c.is_none.ensures ∙ ap is_none (w.reaction-is ∙ sym some)) ∙ sym free;
            events = w.in_ok-push.ensures.items ∙ ap (λ (e : Fired). c.loop-i.events.items ++ e ∷ []) event
                ∙ ap (λ (events : List Fired). events ++ lone_event config seed k m w.in-Some.r ∷ []) c.loop-i.invariant.events
                ∙ sym (step ∙ ap (λ (one : Option ℕ). so_far ++ cons_option (option_map (lone_event config seed k m) one) []) some);
            seed = w.fired_of_one.ensures.seed ∙ c.loop-i.invariant.seed;
          })
      | in_default w ↦
          let none = drawn ∙ w.in_default.is in
          rw (w.streams-is, w.events-is) (record {
            free = pushed ∙ ap (λ (b : Bool). frees ++ b ∷ []) (none_is c.match-reaction.reaction c.is_none.result c.is_none.ensures ∙ ap is_none (w.reaction-is ∙ sym drawn)) ∙ sym free;
            events = c.loop-i.invariant.events ∙ sym (step ∙ ap (λ (one : Option ℕ). so_far ++ cons_option (option_map (lone_event config seed k m) one) []) none ∙ append-nil so_far);
            seed = c.loop-i.invariant.seed;
          })
    ]
