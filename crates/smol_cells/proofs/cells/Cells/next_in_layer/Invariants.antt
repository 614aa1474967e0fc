use Rattle.std.proofs.Common.{◌-◌, ◌≤◌}
use Rattle.std.specs.Prelude.{flat_map}
use Rattle.smol_cells.specs.Kept.{items_in_row}
use Rattle.smol_cells.specs.Next.{IsNext}
use Rattle.smol_cells.specs.Placed.{counted}
use Rattle.smol_cells.specs.Ranges.{first_on}
use Rattle.smol_cells.proofs.cells.Cells.next_in_layer.Given as goal

abbrev pub invariant-loop-y : goal.invariant-loop-y
invariant-loop-y l = record {
  from : first_on l.boxes 1 ≤ l.y;
  next : IsNext (flat_map (items_in_row l.self l.boxes l.z) (counted (first_on l.boxes 1) (l.y - first_on l.boxes 1))) l.least l.next;
}
