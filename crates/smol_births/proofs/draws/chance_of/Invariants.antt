use Rattle.std.proofs.Common.{◌≡◌, ◌+◌, drop, sum_by}
use Rattle.smol_types.specs.Reactions.{share_of}
use Rattle.smol_births.proofs.draws.chance_of.Given as goal

-- the shares so far, and those of the reactions that are left
abbrev pub invariant-loop-reaction : goal.invariant-loop-reaction
invariant-loop-reaction l =
    l.chance + sum_by (share_of l.species) (drop l.reaction-index l.reactions) ≡ sum_by (share_of l.species) l.reactions
