use Rattle.std.proofs.Common.{◌≡◌, ◌≤◌, ◌*◌, ◌^◌, take}
use Rattle.smol_stats.specs.Sums.{squares_on}
use Rattle.smol_stats.proofs.summing.squares_along.Given as goal

-- the sum is that of the molecules so far
abbrev pub invariant-loop-mol : goal.invariant-loop-mol
invariant-loop-mol l = record {
  summed : l.sum ≡ squares_on l.who l.from l.axis (take l.mol-index l.mols);
  small : l.sum ≤ l.mol-index * 2 ^ 98;
}
