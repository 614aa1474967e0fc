use Rattle.std.proofs.Common.{◌<◌, ℕ, List, length, get_or, Option, ap, subst, sym, ◌∙◌, arith}
use Rattle.smol_types.specs.declared.draft.Draft.{Draft}
use Rattle.smol_pairs.specs.Reach.{reach_of}
use Rattle.smol_pairs.proofs.Reaching.{reach_at, reach_count}
use Rattle.smol_pairs.proofs.reaches.Reaches.reach.Goals as goal

pub index-requires : goal.index-requires
index-requires c =
    let draft = c.self.inside.config.now in
    let there = subst (λ (draft : Draft). c.args.species < length draft.species) (sym c.self.view_is) c.requires in
    omega (arith, ap length c.self.invariant.1, reach_count draft, there)

pub returns : goal.returns
returns c =
    let draft = c.self.inside.config.now in
    let there = subst (λ (draft : Draft). c.args.species < length draft.species) (sym c.self.view_is) c.requires in
    c.index.ensures
    ∙ ap (λ (reaches : List (Option ℕ)). get_or reaches c.args.species c.index.result.now) c.self.invariant.1
    ∙ reach_at draft c.args.species c.index.result.now there
    ∙ ap (λ (draft : Draft). reach_of c.args.species draft.reactions) c.self.view_is
