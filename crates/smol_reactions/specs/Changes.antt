-- How a line changes the reactions that a reader keeps. This is no part of what a text means.
use Rattle.std.specs.Prelude.{ℕ, length, map, None, Some}
use Rattle.smol_geom.specs.declared.place.Step3.{Step3}
use Rattle.smol_num.specs.declared.quantities.Micro.{Micro}
use Rattle.smol_types.specs.declared.reaction.Placement.TheVariants.{Offsets, Unbind}
use Rattle.smol_types.specs.declared.reaction.Product.{Product}
use Rattle.smol_types.specs.declared.reaction.Reaction.{Reaction}
use Rattle.smol_line.specs.Probability.{threshold_of}
use Rattle.smol_reactions.specs.declared.scheme.Scheme.{Scheme}
use Rattle.smol_reactions.specs.declared.product_placement.ProductPlacement.{ProductPlacement}
use Rattle.smol_reactions.specs.declared.product_placement.ProductPlacement.TheVariants as placement
use Rattle.smol_reactions.specs.Numbered.{changed}
use Rattle.smol_reactions.specs.Content.{no_offset, usual_threshold}

-- a product before any line gives its offset
abbrev pub fresh_product : ℕ → Product
fresh_product species = record { species = species; offset = no_offset }

-- a reaction before any line but its own says of it
abbrev pub fresh_reaction : Scheme → Reaction
fresh_reaction scheme = record {
  name = scheme.name;
  order = length scheme.reactants;
  reactants = scheme.reactants;
  products = map fresh_product scheme.products;
  radius = None;
  threshold = usual_threshold (length scheme.reactants);
  rate = scheme.rate;
  placement = Offsets;
}

abbrev pub with_radius : Micro → Reaction → Reaction
with_radius radius reaction = record reaction { radius = Some radius }

-- a probability takes the place of a rate
abbrev pub with_chance : ℕ → Reaction → Reaction
with_chance chance reaction = record reaction { threshold = threshold_of chance; rate = None }

abbrev pub with_offset : Step3 → Product → Product
with_offset offset product = record product { offset = offset }

abbrev pub with_placement : ProductPlacement → Reaction → Reaction
with_placement (placement.Offset product offset) reaction =
    record reaction { products = changed (with_offset offset) product reaction.products }
with_placement (placement.Unbind distance) reaction = record reaction { placement = Unbind distance }
