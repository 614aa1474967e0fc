use Rattle.std.proofs.Common.{◌≡◌, map, take}
use Rattle.smol_pairs.specs.Encounters.{pair_at}
use Rattle.smol_pairs.proofs.pairing.pairs_of.Given as goal

-- the pairs of the encounters so far
abbrev pub invariant-loop-encounter : goal.invariant-loop-encounter
invariant-loop-encounter l = l.pairs.items ≡ map (pair_at l.mols) (take l.encounter-index l.encounters)
