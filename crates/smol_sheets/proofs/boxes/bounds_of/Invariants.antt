use Rattle.smol_geom.specs.Axes.{IsWithin}
use Rattle.smol_types.specs.Limits.{farthest}
use Rattle.smol_cells.specs.Numbered.{IsFilled}
use Rattle.smol_sheets.proofs.boxes.bounds_of.Given as goal

-- the bounds are not empty, and none of their ends is far away
abbrev pub invariant-loop-rect : goal.invariant-loop-rect
invariant-loop-rect l = record {
  low : IsWithin farthest l.bounds.low;
  high : IsWithin farthest l.bounds.high;
  filled : IsFilled l.bounds;
}
