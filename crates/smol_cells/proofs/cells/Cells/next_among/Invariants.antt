use Rattle.std.proofs.Common.{◌-◌, ◌≤◌}
use Rattle.smol_cells.specs.Kept.{items_between}
use Rattle.smol_cells.specs.Next.{IsNext}
use Rattle.smol_cells.proofs.cells.Cells.next_among.Given as goal

abbrev pub invariant-loop-position : goal.invariant-loop-position
invariant-loop-position l = record {
  from : l.fn.run.start ≤ l.position;
  to : l.position - l.fn.run.start ≤ l.fn.run.end - l.fn.run.start;
  next : IsNext (items_between l.self l.fn.run.start l.position) l.least l.next;
}
