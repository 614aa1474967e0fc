use Rattle.std.proofs.Common.{◌≡◌, drop}
use Rattle.smol_pairs.specs.Reach.{longer, reach_of}
use Rattle.smol_pairs.proofs.reach.reach_of.Given as goal

-- the reach so far and that by the reactions that are left
abbrev pub invariant-loop-reaction : goal.invariant-loop-reaction
invariant-loop-reaction l =
    longer l.reach (reach_of l.species (drop l.reaction-index l.reaction-items)) ≡ reach_of l.species l.reaction-items
