use Rattle.std.proofs.Common.{◌≡◌, ◌≤◌, ◌*◌, ◌^◌, pos, take, unsigned_abs}
use Rattle.smol_stats.specs.Sums.{sum_on}
use Rattle.smol_stats.proofs.summing.sum_along.Given as goal

-- the sum is that of the molecules so far
abbrev pub invariant-loop-mol : goal.invariant-loop-mol
invariant-loop-mol l = record {
  summed : l.sum ≡ sum_on l.who (pos 0) l.axis (take l.mol-index l.mols);
  small : unsigned_abs l.sum ≤ l.mol-index * 2 ^ 49;
}
