use Rattle.std.proofs.Common.{◌≡◌, ℕ, List, length, get_or, ap, ◌∙◌, arith}
use Rattle.std.proofs.lemmas.List.FromFn.{get_or-map-range_with_len, length-map-range_with_len}
use Rattle.smol_births.specs.Chances.{chance_of, chances_of}
use Rattle.smol_births.proofs.alone.Alone.chance.Goals as goal

pub index-requires : goal.index-requires
index-requires c =
    let draft = c.args.self.now in
    let chances : c.self.inside.chances.items ≡ chances_of draft = c.self.invariant.1 ∙ ap chances_of c.self.view_is in
    omega (arith, ap length chances, length-map-range_with_len (chance_of draft.reactions) 0 (length draft.species), c.requires, c.self.inside.chances.ok.0)

pub returns : goal.returns
returns c =
    let draft = c.args.self.now in
    let chances : c.self.inside.chances.items ≡ chances_of draft = c.self.invariant.1 ∙ ap chances_of c.self.view_is in
    c.index.ensures ∙ ap (λ (chances : List ℕ). get_or chances c.args.species c.index.result.now) chances
    ∙ get_or-map-range_with_len (chance_of draft.reactions) 0 (length draft.species) c.args.species c.args.species c.index.result.now c.requires (omega arith)
