use Rattle.std.proofs.Common.{◌≡◌, ◌++◌, List, length, drop}
use Rattle.smol_blocks.specs.Surface.{SurfaceSaid}
use Rattle.smol_blocks.specs.SurfaceTable.{Holds}
use Rattle.smol_blocks.specs.Blocks.{panels_from, panels_in}
use Rattle.smol_blocks.proofs.close_surface.panels_of.Given as goal

-- the panels so far, and those that are left
abbrev pub invariant-loop-k : goal.invariant-loop-k
invariant-loop-k l = record {
  added : (lines : List SurfaceSaid) → Holds l.table lines
      → l.panels ++ panels_from l.surface l.others lines l.k (drop l.k l.table.panels.rects.items) (drop l.k l.table.panels.sides.items) ≡ panels_in l.surface l.others lines;
  count : length l.panels ≡ l.k;
}
