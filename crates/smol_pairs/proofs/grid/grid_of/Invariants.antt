use Rattle.std.proofs.Common.{◌^◌, ◌-◌, ◌<◌, ◌≤◌}
use Rattle.smol_pairs.proofs.grid.grid_of.Given as goal

-- the edge is positive and not too long
abbrev pub invariant-loop-grid : goal.invariant-loop-grid
invariant-loop-grid l = record {
  positive : 0 < l.edge;
  short : l.edge ≤ 2 ^ 58;
}

abbrev pub decreases-loop-grid : goal.decreases-loop-grid
decreases-loop-grid l = 2 ^ 58 - l.edge
