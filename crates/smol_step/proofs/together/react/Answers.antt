use Rattle.std.proofs.Common.{◌++◌, ◌∷◌, [], ℕ, get_or, ap, sym, ◌∙◌}
use Rattle.std.proofs.lemmas.Option.{get_or_from_slice_get}
use Rattle.smol_types.specs.declared.state.Mol.{Mol}
use Rattle.smol_meaning.specs.declared.event.Fired.{Fired}
use Rattle.smol_meaning.specs.Encounters.{event_of_two}
use Rattle.smol_pairs.specs.declared.encounter.Encounter.{Encounter as Ranks}
use Rattle.smol_step.proofs.together.react.Goals as goal

pub returns-clause-event : goal.returns-clause-event
returns-clause-event c = λ e is.
    let mols = c.args.mols.now in
    let nobody : Mol = record { serial = 0; species = 0; place = record { 0 = [] } } in
    let rank_a = ap (λ (r : Ranks). r.rank_a) (sym is.is) in
    let rank_b = ap (λ (r : Ranks). r.rank_b) (sym is.is) in
    let reaction = ap (λ (r : Ranks). r.reaction) (sym is.is) in
    let a = ap (λ (n : ℕ). get_or mols n nobody) rank_a ∙ get_or_from_slice_get mols e.rank_a e.a nobody is.met.first in
    let b = ap (λ (n : ℕ). get_or mols n nobody) rank_b ∙ get_or_from_slice_get mols e.rank_b e.b nobody is.met.second in
    c.in_ok-push.ensures.items
    ∙ ap (λ (event : Fired). c.args.reacting.now.events.items ++ event ∷ [])
    (c.fired_of_two-event.ensures.event
    ∙ (λ i. event_of_two c.args.config.now c.args.streams.now c.args.k (record { a = a i; b = b i; rank_a = rank_a i; rank_b = rank_b i; reaction = reaction i })))
