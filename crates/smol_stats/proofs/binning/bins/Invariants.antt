use Rattle.std.proofs.Common.{◌≡◌, take}
use Rattle.smol_stats.specs.Bins.{bins_of}
use Rattle.smol_stats.proofs.binning.bins.Given as goal

-- the counts are those of the molecules so far
abbrev pub invariant-loop-mol : goal.invariant-loop-mol
invariant-loop-mol l = record {
  counted : l.counts.items ≡ bins_of l.who l.axis l.low l.high l.n (take l.mol-index l.mols);
}
