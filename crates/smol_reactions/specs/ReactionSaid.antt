-- What lines say of reactions. These stand nearest first, and reactions are numbered from 0 in the order of their lines.
use Rattle.std.specs.Prelude.{ℕ}
use Rattle.smol_num.specs.declared.quantities.Micro.{Micro}
use Rattle.smol_reactions.specs.declared.scheme.Scheme.{Scheme}
use Rattle.smol_reactions.specs.declared.product_placement.ProductPlacement.{ProductPlacement}

pub data ReactionSaid : Type 0 where
  -- this is a further reaction
  reacts : Scheme → ReactionSaid
  -- the reactants of this reaction may be so far apart
  binds : ℕ → Micro → ReactionSaid
  -- this reaction is so likely, in billionths
  happens : ℕ → ℕ → ReactionSaid
  -- products of this reaction are placed so
  places : ℕ → ProductPlacement → ReactionSaid
