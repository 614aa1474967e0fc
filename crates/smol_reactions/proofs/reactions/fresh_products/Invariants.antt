use Rattle.std.proofs.Common.{◌≡◌, map, take}
use Rattle.smol_reactions.specs.Changes.{fresh_product}
use Rattle.smol_reactions.proofs.reactions.fresh_products.Given as goal

abbrev pub invariant-loop-species : goal.invariant-loop-species
invariant-loop-species l = l.products ≡ map fresh_product (take l.species-index l.numbers)
