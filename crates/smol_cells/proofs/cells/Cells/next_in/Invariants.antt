use Rattle.std.proofs.Common.{◌-◌, ◌≤◌}
use Rattle.std.specs.Prelude.{flat_map}
use Rattle.smol_cells.specs.Kept.{items_in_layer}
use Rattle.smol_cells.specs.Next.{IsNext}
use Rattle.smol_cells.specs.Placed.{counted}
use Rattle.smol_cells.specs.Ranges.{first_on}
use Rattle.smol_cells.proofs.cells.Cells.next_in.Given as goal

abbrev pub invariant-loop-z : goal.invariant-loop-z
invariant-loop-z l = record {
  from : first_on l.boxes 2 ≤ l.z;
  next : IsNext (flat_map (items_in_layer l.self l.boxes) (counted (first_on l.boxes 2) (l.z - first_on l.boxes 2))) l.least l.next;
}
