use Rattle.std.proofs.Common.{◌≡◌, ◌-◌, ◌≤◌, ◌++◌}
use Rattle.std.specs.Prelude.{flat_map}
use Rattle.smol_cells.specs.Entries.{row_entries}
use Rattle.smol_cells.specs.Placed.{counted}
use Rattle.smol_cells.specs.Ranges.{first_on}
use Rattle.smol_cells.proofs.entries.add_layer.Given as goal

abbrev pub invariant-loop-y : goal.invariant-loop-y
invariant-loop-y l = record {
  from : first_on l.boxes 1 ≤ l.y;
  added : l.entries.items ≡ l.initial.entries.items ++ flat_map (row_entries l.grid.counts l.boxes l.index l.z) (counted (first_on l.boxes 1) (l.y - first_on l.boxes 1));
}
