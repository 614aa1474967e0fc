use Rattle.std.proofs.Common.{◌≡◌, ◌≤◌, count_by, take}
use Rattle.smol_stats.specs.Tally.{is_counted}
use Rattle.smol_stats.proofs.summing.count_of.Given as goal

-- those of the molecules so far are counted
abbrev pub invariant-loop-mol : goal.invariant-loop-mol
invariant-loop-mol l = record {
  counted : l.count ≡ count_by (is_counted l.who) (take l.mol-index l.mols);
  few : l.count ≤ l.mol-index;
}
