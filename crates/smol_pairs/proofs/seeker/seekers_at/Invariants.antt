use Rattle.std.proofs.Common.{◌≡◌, map, take}
use Rattle.smol_pairs.specs.Seekers.{seeker_at}
use Rattle.smol_pairs.proofs.seeker.seekers_at.Given as goal

-- the seekers at the indexes so far
abbrev pub invariant-loop-index : goal.invariant-loop-index
invariant-loop-index l = l.ordered.items ≡ map (seeker_at l.seekers) (take l.index-index l.order)
