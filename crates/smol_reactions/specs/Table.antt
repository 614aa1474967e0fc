-- What a reader keeps of reactions. This is no part of what a text means.
use Rattle.std.specs.Prelude.{◌≡◌, ◌≤◌, List, length, All, Result}
use Rattle.smol_types.specs.declared.fault.Kind.{Kind}
use Rattle.smol_types.specs.Limits.{most_reactions}
use Rattle.smol_line.specs.declared.refusal.Refusal.{Refusal}
use Rattle.smol_line.specs.LookingBack.{Reads as ReadsLine}
use Rattle.smol_reactions.specs.declared.reactions.Reactions.{Reactions}
use Rattle.smol_reactions.specs.Reaction.{reaction_names_of, HasFewProducts, HasSmallRate}
use Rattle.smol_reactions.specs.ReactionSaid.{ReactionSaid}
use Rattle.smol_reactions.specs.Content.{reactions_of, kinds_of, chances_of}
use Rattle.smol_reactions.specs.Order.{AreOrdered}

-- the table is what these say of reactions
pub record Holds (table : Reactions) (said : List ReactionSaid) : Type 0 where
  pub list : table.list.items ≡ reactions_of said
  pub kinds : table.kinds.items ≡ kinds_of said
  pub chances : table.chances.items ≡ chances_of said
  pub ordered : AreOrdered said

-- the parts of the table fit each other
pub record IsKept (table : Reactions) : Type 0 where
  pub names : table.names ≡ reaction_names_of table.list.items
  pub kinds : length table.kinds.items ≡ length table.list.items
  pub chances : length table.chances.items ≡ length table.list.items
  pub products : All HasFewProducts table.list.items
  pub rates : All HasSmallRate table.list.items
  pub few : length table.list.items ≤ most_reactions

-- how the reading of a line ends: it is taken and the table holds what it says too, or its fault is told, or memory ran out
abbrev pub Reads : {T : Type 0} → (List ReactionSaid → Result ReactionSaid Kind) → Reactions → Reactions → Result T Refusal → Type 0
Reads rule old new result = ReadsLine Holds rule old new result
