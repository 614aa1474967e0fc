use Rattle.std.proofs.Common.{◌≡◌, ◌+◌, take}
use Rattle.smol_edge.specs.Faults.{Tells}
use Rattle.smol_run.specs.Opening.{OpensAll}
use Rattle.smol_run.proofs.outputs.open_all.Given as goal

-- the files so far are open, and nothing failed
abbrev pub invariant-loop-name : goal.invariant-loop-name
invariant-loop-name g l = record {
  counted : g.K.Outlets.opened l.outlets ≡ g.K.Outlets.opened l.initial.outlets + l.name-index;
  opened : Tells (g.K.Outlets.told l.initial.outlets) (g.K.Outlets.told l.outlets) (OpensAll (take l.name-index l.names));
  no_fault : g.K.Outlets.faults l.outlets ≡ g.K.Outlets.faults l.initial.outlets;
}
