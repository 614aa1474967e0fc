use Rattle.std.proofs.Common.{arith}
use Rattle.smol_cells.specs.Entries.{layer_entries}
use Rattle.smol_cells.proofs.Counting.{flat_more}
use Rattle.smol_cells.proofs.entries.add_boxes.Goals as goal

pub loop-z-preserved : goal.loop-z-preserved
loop-z-preserved c = record {
  from = omega (arith, c.loop-z.invariant.from);
  added = flat_more (layer_entries c.args.grid.now.counts c.args.boxes c.args.index) _ _ _ _ c.loop-z.z c.loop-z.invariant.from c.loop-z.invariant.added c.in_ok-add_layer.ensures;
}
