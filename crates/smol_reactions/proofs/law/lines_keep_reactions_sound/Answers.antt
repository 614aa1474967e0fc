use Rattle.smol_reactions.proofs.SoundSaid.{binding_radius_keeps, product_placement_keeps, reaction_keeps, reaction_probability_keeps}
use Rattle.smol_reactions.proofs.law.lines_keep_reactions_sound.Goals as goal

pub returns-clause-reaction : goal.returns-clause-reaction
returns-clause-reaction c = reaction_keeps

pub returns-clause-binding_radius : goal.returns-clause-binding_radius
returns-clause-binding_radius c = binding_radius_keeps

pub returns-clause-reaction_probability : goal.returns-clause-reaction_probability
returns-clause-reaction_probability c = reaction_probability_keeps

pub returns-clause-product_placement : goal.returns-clause-product_placement
returns-clause-product_placement c = product_placement_keeps
