use Rattle.std.proofs.Common.{◌≡◌, take}
use Rattle.smol_edge.specs.Faults.{Tells}
use Rattle.smol_edge.specs.Outlets.{Appends}
use Rattle.smol_loop.specs.Parts.{on_pages}
use Rattle.smol_loop.proofs.writing.write_pages.Given as goal

-- the pages so far are written
abbrev pub invariant-loop-outlet : goal.invariant-loop-outlet
invariant-loop-outlet g l = record {
  written : Tells (g.K.Outlets.told l.initial.outlets) (g.K.Outlets.told l.outlets) (Appends (on_pages 0 (take l.outlet l.pages)));
  opened : g.K.Outlets.opened l.outlets ≡ g.K.Outlets.opened l.initial.outlets;
  faults : g.K.Outlets.faults l.outlets ≡ g.K.Outlets.faults l.initial.outlets;
}
