use Rattle.std.proofs.Common.{◌≡◌, All, map, take}
use Rattle.smol_cells.specs.Numbered.{boxes_of_rect}
use Rattle.smol_cells.specs.Ranges.{AreAmong}
use Rattle.smol_cells.proofs.make.ranges_of_rects.Given as goal

abbrev pub invariant-loop-rect : goal.invariant-loop-rect
invariant-loop-rect l = record {
  value : l.ranges.items ≡ map (boxes_of_rect l.grid) (take l.rect-index l.rects);
  among : All (AreAmong l.grid.counts) l.ranges.items;
}
