use Rattle.std.proofs.Common.{◌^◌}
use Rattle.smol_geom.specs.Axes.{IsWithin}
use Rattle.smol_cells.specs.Numbered.{IsFilled}
use Rattle.smol_pairs.proofs.grid.bounds_of.Given as goal

-- the bounds are not empty, and none of their ends is far away
abbrev pub invariant-loop-seeker : goal.invariant-loop-seeker
invariant-loop-seeker l = record {
  low : IsWithin (2 ^ 57) l.bounds.low;
  high : IsWithin (2 ^ 57) l.bounds.high;
  filled : IsFilled l.bounds;
}
