-- What a reader's table keeps through a change.
use Rattle.std.proofs.Common.{◌≡◌, ℕ, ◌<◌, ◌≤◌, List, length, All, subst, refl, sym, ap, ◌∙◌}
use Rattle.smol_types.specs.declared.reaction.Reaction.{Reaction}
use Rattle.smol_types.specs.Limits.{most_products}
use Rattle.smol_reactions.specs.declared.product_placement.ProductPlacement.{ProductPlacement}
use Rattle.smol_reactions.specs.declared.product_placement.ProductPlacement.TheVariants.{Offset, Unbind}
use Rattle.smol_reactions.specs.Numbered.{changed}
use Rattle.smol_reactions.specs.Reaction.{reaction_names_of, HasFewProducts, HasSmallRate}
use Rattle.smol_reactions.specs.ReactionSaid.{ReactionSaid}
use Rattle.smol_reactions.specs.Content.{schemes_of, reaction_made, reactions_of}
use Rattle.smol_reactions.specs.Changes.{with_offset, with_placement}
use Rattle.smol_reactions.proofs.Lists.{length-changed, map-changed, All-changed, length-numbered}

-- a change keeps a reaction's name, and that its products are few and its rate is small
pub record IsMild (change : Reaction → Reaction) : Type 0 where
  pub name : (reaction : Reaction) → (change reaction).name ≡ reaction.name
  pub products : (reaction : Reaction) → HasFewProducts reaction → HasFewProducts (change reaction)
  pub rates : (reaction : Reaction) → HasSmallRate reaction → HasSmallRate (change reaction)

pub record IsLike (old new : List Reaction) : Type 0 where
  pub names : reaction_names_of new ≡ reaction_names_of old
  pub count : length new ≡ length old
  pub products : All HasFewProducts new
  pub rates : All HasSmallRate new

-- a reaction that is mildly changed leaves the list alike
pub alike : (change : Reaction → Reaction) (number : ℕ) (old new : List Reaction) → IsMild change → new ≡ changed change number old → All HasFewProducts old → All HasSmallRate old → IsLike old new
alike change number old new mild is few small =
    let Fits : List Reaction → Type 0 = λ list. IsLike old list in
    subst Fits (sym is) (record {
      names = map-changed (λ (reaction : Reaction). reaction.name) change number old mild.name;
      count = length-changed change number old;
      products = All-changed HasFewProducts change number old mild.products few;
      rates = All-changed HasSmallRate change number old mild.rates small;
    })

placed_name : (placement : ProductPlacement) (reaction : Reaction) → (with_placement placement reaction).name ≡ reaction.name
placed_name (Offset product offset) reaction = refl
placed_name (Unbind distance) reaction = refl

placed_few : (placement : ProductPlacement) (reaction : Reaction) → HasFewProducts reaction → HasFewProducts (with_placement placement reaction)
placed_few (Offset product offset) reaction few =
    subst (λ (n : ℕ). n ≤ most_products) (sym (length-changed (with_offset offset) product reaction.products)) few
placed_few (Unbind distance) reaction few = few

placed_small : (placement : ProductPlacement) (reaction : Reaction) → HasSmallRate reaction → HasSmallRate (with_placement placement reaction)
placed_small (Offset product offset) reaction small = small
placed_small (Unbind distance) reaction small = small

pub placed_mild : (placement : ProductPlacement) → IsMild (with_placement placement)
placed_mild placement = record { name = placed_name placement; products = placed_few placement; rates = placed_small placement }

-- a number in the list is that of a reaction that is said
pub number_said : (list : List Reaction) (said : List ReactionSaid) (number : ℕ) → list ≡ reactions_of said → number < length list → number < length (schemes_of said)
number_said list said number is below =
    subst (λ (n : ℕ). number < n) (ap (λ (reactions : List Reaction). length reactions) is ∙ length-numbered (reaction_made said) 0 (schemes_of said)) below
