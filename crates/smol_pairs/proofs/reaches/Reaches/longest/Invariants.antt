use Rattle.std.proofs.Common.{◌≡◌, drop}
use Rattle.smol_pairs.specs.Reach.{longer, longest_of}
use Rattle.smol_pairs.proofs.reaches.Reaches.longest.Given as goal

-- the longest reach so far and that of the species that are left
abbrev pub invariant-loop-reach : goal.invariant-loop-reach
invariant-loop-reach l = longer l.longest (longest_of (drop l.reach-index l.reach-items)) ≡ longest_of l.reach-items
