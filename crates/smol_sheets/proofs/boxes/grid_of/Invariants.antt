use Rattle.std.proofs.Common.{◌^◌, ◌-◌, ◌<◌, ◌≤◌}
use Rattle.smol_sheets.proofs.boxes.grid_of.Given as goal

-- the edge is positive and not too long
abbrev pub invariant-loop-edge : goal.invariant-loop-edge
invariant-loop-edge l = record {
  positive : 0 < l.edge;
  short : l.edge ≤ 2 ^ 43;
}

abbrev pub decreases-loop-edge : goal.decreases-loop-edge
decreases-loop-edge l = 2 ^ 43 - l.edge
