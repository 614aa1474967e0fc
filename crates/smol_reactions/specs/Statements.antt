-- What a line says of reactions behind these, or its fault.
use Rattle.std.specs.Prelude.{ℕ, List, Option, Result}
use Rattle.smol_text.specs.Reading.{Stated}
use Rattle.smol_types.specs.declared.fault.Kind.{Kind}
use Rattle.smol_line.specs.LookingBack.{say}
use Rattle.smol_reactions.specs.Reaction.{reaction_names_of, reaction_in}
use Rattle.smol_reactions.specs.BindingRadius.{binding_radius_in}
use Rattle.smol_reactions.specs.ReactionProbability.{reaction_probability_in}
use Rattle.smol_reactions.specs.ProductPlacement.{product_placement_in}
use Rattle.smol_reactions.specs.ReactionSaid.{ReactionSaid, reacts, binds, happens, places}
use Rattle.smol_reactions.specs.Content.{reactions_of, kinds_of}

-- what a `reaction` line says, beside species of these names
abbrev pub reaction_said : List (List ℕ) → List ReactionSaid → Stated → Result ReactionSaid Kind
reaction_said species before line = say reacts (reaction_in species (reaction_names_of (reactions_of before)) line)

-- what a `binding_radius` line says
abbrev pub binding_radius_said : List ReactionSaid → Stated → Result ReactionSaid Kind
binding_radius_said before line = say (λ given. binds given.0 given.1) (binding_radius_in (reactions_of before) line)

-- what a `reaction_probability` line says
abbrev pub reaction_probability_said : List ReactionSaid → Stated → Result ReactionSaid Kind
reaction_probability_said before line = say (λ given. happens given.0 given.1) (reaction_probability_in (reactions_of before) line)

-- what a `product_placement` line says, by the axes in use and beside species of these names
abbrev pub product_placement_said : Option ℕ → List (List ℕ) → List ReactionSaid → Stated → Result ReactionSaid Kind
product_placement_said dims species before line =
    say (λ given. places given.0 given.1) (product_placement_in dims species (reactions_of before) (kinds_of before) line)
