use Rattle.std.proofs.Common.{◌≡◌, ◌-◌, ◌≤◌, ◌++◌, map}
use Rattle.smol_cells.specs.Numbers.{box_at}
use Rattle.smol_cells.specs.Placed.{counted}
use Rattle.smol_cells.specs.Ranges.{first_on}
use Rattle.smol_cells.proofs.entries.add_row.Given as goal

abbrev pub invariant-loop-x : goal.invariant-loop-x
invariant-loop-x l = record {
  from : first_on l.fn.boxes 0 ≤ l.x;
  added : l.entries.items ≡ l.initial.entries.items ++ map (λ x. record { number = box_at l.grid.counts x l.y l.z; index = l.index }) (counted (first_on l.fn.boxes 0) (l.x - first_on l.fn.boxes 0));
}
