use Rattle.std.proofs.Common.{◌≡◌, ◌≤◌, take, sum_by}
use Rattle.smol_types.specs.Limits.{certain}
use Rattle.smol_types.specs.Reactions.{share_of}
use Rattle.smol_reactions.proofs.rates.has_enough.Given as goal

abbrev pub invariant-loop-reaction : goal.invariant-loop-reaction
invariant-loop-reaction l = (l.sum ≡ sum_by (share_of l.species) (take l.reaction-index l.reactions)) × (l.sum ≤ certain)
