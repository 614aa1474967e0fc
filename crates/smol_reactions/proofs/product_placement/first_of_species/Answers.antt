use Rattle.std.proofs.Common.{◌==◌, sym, ap, ◌∙◌}
use Rattle.smol_types.specs.declared.reaction.Product.{Product}
use Rattle.smol_line.proofs.SetLemmas.{position-map}
use Rattle.smol_line.specs.SpeciesWord.{number_found}
use Rattle.smol_reactions.proofs.product_placement.first_of_species.Goals as goal

pub returns-in-Some-clause-value : goal.returns-in-Some-clause-value
returns-in-Some-clause-value c =
    ap number_found (c.in-Some.ensures ∙ sym (position-map (λ species. species == c.args.species) (λ (product : Product). product.species) c.args.products.now))

pub returns-in-None-clause-value : goal.returns-in-None-clause-value
returns-in-None-clause-value c =
    ap number_found (c.in-None.ensures ∙ sym (position-map (λ species. species == c.args.species) (λ (product : Product). product.species) c.args.products.now))
