-- What lines together say of reactions: of several lines on one matter the nearest counts.
use Rattle.std.specs.Prelude.{ℕ, zero, suc, Bool, true, ◌&&◌, nat_le, ◌+◌, ◌==◌, nat_eq, pos, List, [], ◌∷◌, ◌++◌, length, unwrap_or, Option, None, Some, if◌then◌else◌}
use Rattle.smol_geom.specs.declared.place.Step3.{Step3}
use Rattle.smol_num.specs.declared.quantities.Micro.{Micro}
use Rattle.smol_num.specs.declared.quantities.Threshold.{Threshold}
use Rattle.smol_types.specs.declared.reaction.Placement.{Placement}
use Rattle.smol_types.specs.declared.reaction.Placement.TheVariants.{Offsets, Unbind}
use Rattle.smol_types.specs.declared.reaction.Product.{Product}
use Rattle.smol_types.specs.declared.reaction.Reaction.{Reaction}
use Rattle.smol_types.specs.Limits.{certain}
use Rattle.smol_types.specs.Reactions.{reacts_alone}
use Rattle.smol_line.specs.LookingBack.{nearest}
use Rattle.smol_line.specs.Probability.{threshold_of, whole_chance}
use Rattle.smol_reactions.specs.declared.scheme.Scheme.{Scheme}
use Rattle.smol_reactions.specs.declared.product_placement.PlacementKind.{PlacementKind}
use Rattle.smol_reactions.specs.declared.product_placement.PlacementKind.TheVariants as kind
use Rattle.smol_reactions.specs.declared.product_placement.ProductPlacement.{ProductPlacement}
use Rattle.smol_reactions.specs.declared.product_placement.ProductPlacement.TheVariants as placement
use Rattle.smol_reactions.specs.Numbered.{numbered}
use Rattle.smol_reactions.specs.ReactionSaid.{ReactionSaid, reacts, binds, happens, places}

-- the reactions that these say, in the order of their lines
abbrev pub schemes_of : List ReactionSaid → List Scheme
schemes_of [] = []
schemes_of (reacts scheme ∷ before) = schemes_of before ++ scheme ∷ []
schemes_of (binds number radius ∷ before) = schemes_of before
schemes_of (happens number chance ∷ before) = schemes_of before
schemes_of (places number placement ∷ before) = schemes_of before

-- what is said of a reaction, where it is the one of this number
abbrev pub of_reaction : {T : Type 0} → ℕ → ℕ → Option T → Option T
of_reaction number said matter = if nat_eq said number then matter else None

abbrev pub radius_said : ℕ → ReactionSaid → Option Micro
radius_said number (binds said radius) = of_reaction number said (Some radius)
radius_said number other = None

abbrev pub chance_said : ℕ → ReactionSaid → Option ℕ
chance_said number (happens said chance) = of_reaction number said (Some chance)
chance_said number other = None

-- the offset of a product, where it is the one of this number
abbrev pub offset_by : ℕ → ProductPlacement → Option Step3
offset_by product (placement.Offset moved offset) = if nat_eq moved product then Some offset else None
offset_by product (placement.Unbind distance) = None

abbrev pub offset_said : ℕ → ℕ → ReactionSaid → Option Step3
offset_said number product (places said placement) = of_reaction number said (offset_by product placement)
offset_said number product other = None

-- products that are unbound, at this distance
abbrev pub unbinding : ProductPlacement → Option Placement
unbinding (placement.Offset product offset) = None
unbinding (placement.Unbind distance) = Some (Unbind distance)

abbrev pub unbinding_said : ℕ → ReactionSaid → Option Placement
unbinding_said number (places said placement) = of_reaction number said (unbinding placement)
unbinding_said number other = None

abbrev pub placement_kind_of : ProductPlacement → PlacementKind
placement_kind_of (placement.Offset product offset) = kind.Offset
placement_kind_of (placement.Unbind distance) = kind.Unbindrad

abbrev pub kind_said : ℕ → ReactionSaid → Option PlacementKind
kind_said number (places said placement) = of_reaction number said (Some (placement_kind_of placement))
kind_said number other = None

-- an offset of 0
abbrev pub no_offset : Step3
no_offset = record { 0 = pos 0 ∷ pos 0 ∷ pos 0 ∷ [] }

-- the threshold of a reaction whose probability no line gives: one of one reactant never happens, and one of two always does
abbrev pub usual_threshold : ℕ → Threshold
usual_threshold order = record { 0 = if order == 1 then 0 else certain }

abbrev pub threshold_given : ℕ → Option ℕ → Threshold
threshold_given order None = usual_threshold order
threshold_given order (Some chance) = threshold_of chance

-- the rate of a reaction's own line, unless a probability takes its place
abbrev pub rate_left : Option ℕ → Option ℕ → Option ℕ
rate_left rate None = rate
rate_left rate (Some chance) = None

-- a product of a reaction, each by their numbers
abbrev pub product_made : List ReactionSaid → ℕ → ℕ → ℕ → Product
product_made said number product species =
    record { species = species; offset = unwrap_or (nearest (offset_said number product) said) no_offset }

-- the reaction of a number, by what is said of it. Where it has a rate, its threshold stands for none until all lines are read
abbrev pub reaction_made : List ReactionSaid → ℕ → Scheme → Reaction
reaction_made said number scheme = record {
  name = scheme.name;
  order = length scheme.reactants;
  reactants = scheme.reactants;
  products = numbered (product_made said number) 0 scheme.products;
  radius = nearest (radius_said number) said;
  threshold = threshold_given (length scheme.reactants) (nearest (chance_said number) said);
  rate = rate_left scheme.rate (nearest (chance_said number) said);
  placement = unwrap_or (nearest (unbinding_said number) said) Offsets;
}

-- the reactions that these say
abbrev pub reactions_of : List ReactionSaid → List Reaction
reactions_of said = numbered (reaction_made said) 0 (schemes_of said)

-- the kind of placement that each reaction was given
abbrev pub kinds_of : List ReactionSaid → List (Option PlacementKind)
kinds_of said = numbered (λ number _. nearest (kind_said number) said) 0 (schemes_of said)

-- the probability that each reaction was given, in billionths
abbrev pub chances_of : List ReactionSaid → List (Option ℕ)
chances_of said = numbered (λ number _. nearest (chance_said number) said) 0 (schemes_of said)

-- how likely a reaction is where the species is its one reactant, in billionths
abbrev pub chance_alone : ℕ → Reaction → Option ℕ → ℕ
chance_alone species reaction chance = if reacts_alone species reaction.reactants then unwrap_or chance 0 else 0

-- how likely the reactions of which the species is the one reactant are together, in billionths, by what each was given
abbrev pub chance_sum : ℕ → List Reaction → List (Option ℕ) → ℕ
chance_sum species [] chances = 0
chance_sum species (reaction ∷ reactions) [] = 0
chance_sum species (reaction ∷ reactions) (chance ∷ chances) = chance_alone species reaction chance + chance_sum species reactions chances

-- one whole is enough for each of so many species
abbrev pub are_shared : ℕ → List Reaction → List (Option ℕ) → Bool
are_shared zero reactions chances = true
are_shared (suc species) reactions chances = are_shared species reactions chances
    && nat_le (chance_sum species reactions chances) whole_chance
