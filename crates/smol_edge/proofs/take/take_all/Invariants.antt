use Rattle.std.proofs.Common.{◌≡◌, ◌-◌, ◌≤◌, vec_len}
use Rattle.smol_edge.specs.Faults.{Tells}
use Rattle.smol_edge.specs.Source.{Takes}
use Rattle.smol_edge.proofs.take.take_all.Given as goal

abbrev pub invariant-loop-chunk : goal.invariant-loop-chunk
invariant-loop-chunk g l = record {
  within : vec_len l.bytes ≤ l.limit;
  taken : Tells (g.S.Source.told l.fn.source) (g.S.Source.told l.source) (Takes l.bytes.items);
  no_fault : g.S.Source.faults l.source ≡ g.S.Source.faults l.fn.source;
}

abbrev pub decreases-loop-chunk : goal.decreases-loop-chunk
decreases-loop-chunk g l = l.limit - vec_len l.bytes
