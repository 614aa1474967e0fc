-- What holds of what lines say of reactions.
use Rattle.std.specs.Prelude.{◌≡◌, ℕ, ◌<◌, ◌≤◌, List, length, All, Option, IfSome}
use Rattle.smol_types.specs.Limits.{fastest, most_products, most_reactions}
use Rattle.smol_types.specs.Reactions.{IsReaction}
use Rattle.smol_reactions.specs.declared.scheme.Scheme.{Scheme}
use Rattle.smol_reactions.specs.ReactionSaid.{ReactionSaid}
use Rattle.smol_reactions.specs.Content.{schemes_of, reactions_of}
use Rattle.smol_reactions.specs.Order.{AreOrdered}

-- a reaction has one reactant or two, and no more products than there may be, each of a species that there is. A rate is one of
-- a reaction of one
pub record IsScheme (species_count : ℕ) (scheme : Scheme) : Type 0 where
  pub order_above : 0 < length scheme.reactants
  pub order_below : length scheme.reactants ≤ 2
  pub reactants : All (λ (species : ℕ). species < species_count) scheme.reactants
  pub product_count : length scheme.products ≤ most_products
  pub products : All (λ (species : ℕ). species < species_count) scheme.products
  pub rate_order : IfSome scheme.rate (λ _. length scheme.reactants ≡ 1)
  pub rate_below : IfSome scheme.rate (λ (rate : ℕ). rate ≤ fastest)

-- what lines say of reactions is sound, by the number of axes where it is given, and by the number of species
pub record AreReactions (dims : Option ℕ) (species_count : ℕ) (said : List ReactionSaid) : Type 0 where
  pub ordered : AreOrdered said
  pub count : length (schemes_of said) ≤ most_reactions
  -- where the number of axes isn't given yet, any number will do
  pub all : (axes : ℕ) → IfSome dims (λ (given : ℕ). given ≡ axes) → All (IsReaction axes species_count) (reactions_of said)
