use Rattle.std.proofs.Common.{◌≡◌, ◌-◌, ◌≤◌, [], ◌∷◌, length, take}
use Rattle.smol_edge.specs.Faults.{Tells}
use Rattle.smol_edge.specs.Outlets.{Appends}
use Rattle.smol_edge.proofs.put.put_all.Given as goal

abbrev pub invariant-loop-written : goal.invariant-loop-written
invariant-loop-written g l = record {
  within : l.written ≤ length l.bytes;
  appended : Tells (g.K.Outlets.told l.fn.outlets) (g.K.Outlets.told l.outlets) (Appends ((l.outlet, take l.written l.bytes) ∷ []));
  opened_stays : g.K.Outlets.opened l.outlets ≡ g.K.Outlets.opened l.fn.outlets;
  no_fault : g.K.Outlets.faults l.outlets ≡ g.K.Outlets.faults l.fn.outlets;
}

abbrev pub decreases-loop-written : goal.decreases-loop-written
decreases-loop-written g l = length l.bytes - l.written
