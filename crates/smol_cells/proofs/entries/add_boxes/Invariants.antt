use Rattle.std.proofs.Common.{◌≡◌, ◌-◌, ◌≤◌, ◌++◌}
use Rattle.std.specs.Prelude.{flat_map}
use Rattle.smol_cells.specs.Entries.{layer_entries}
use Rattle.smol_cells.specs.Placed.{counted}
use Rattle.smol_cells.specs.Ranges.{first_on}
use Rattle.smol_cells.proofs.entries.add_boxes.Given as goal

abbrev pub invariant-loop-z : goal.invariant-loop-z
invariant-loop-z l = record {
  from : first_on l.boxes 2 ≤ l.z;
  added : l.entries.items ≡ l.initial.entries.items ++ flat_map (layer_entries l.grid.counts l.boxes l.index) (counted (first_on l.boxes 2) (l.z - first_on l.boxes 2));
}
