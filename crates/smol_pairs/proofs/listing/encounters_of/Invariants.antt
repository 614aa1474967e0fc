use Rattle.std.proofs.Common.{◌≡◌, map, take}
use Rattle.smol_pairs.specs.Listing.{met_of}
use Rattle.smol_pairs.proofs.listing.encounters_of.Given as goal

-- the encounters so far
abbrev pub invariant-loop-one : goal.invariant-loop-one
invariant-loop-one l = l.found.items ≡ map met_of (take l.one-index l.measured)
