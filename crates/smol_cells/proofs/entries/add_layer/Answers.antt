use Rattle.std.proofs.Common.{arith}
use Rattle.smol_cells.specs.Entries.{row_entries}
use Rattle.smol_cells.proofs.Counting.{flat_more}
use Rattle.smol_cells.proofs.entries.add_layer.Goals as goal

pub loop-y-preserved : goal.loop-y-preserved
loop-y-preserved c = record {
  from = omega (arith, c.loop-y.invariant.from);
  added = flat_more (row_entries c.args.grid.now.counts c.args.boxes c.args.index c.args.z) _ _ _ _ c.loop-y.y c.loop-y.invariant.from c.loop-y.invariant.added c.in_ok-add_row.ensures;
}
