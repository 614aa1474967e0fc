use Rattle.std.proofs.Common.{◌≡◌, map, take}
use Rattle.smol_pairs.specs.Listing.{measured_at}
use Rattle.smol_pairs.proofs.listing.measure.Given as goal

-- the encounters so far, each with the square of its distance
abbrev pub invariant-loop-met : goal.invariant-loop-met
invariant-loop-met l = l.measured.items ≡ map (measured_at l.mols) (take l.met-index l.found)
