use Rattle.std.proofs.Common.{◌++◌, length, ap, ◌∙◌}
use Rattle.smol_blocks.specs.Surface.{rects_of}
use Rattle.smol_blocks.specs.Blocks.{panels_from, panels_in}
use Rattle.smol_blocks.proofs.close_surface.panels_of.Goals as goal

pub loop-k-init : goal.loop-k-init
unfolding panels_in
loop-k-init c =
    let table = c.args.table.now.panels in record {
      added = λ lines holds.
          ap (λ panels. panels ++ panels_from c.args.surface c.args.others lines 0 table.rects.items table.sides.items) c.new-panels.ensures
          ∙ ap (λ rects. panels_from c.args.surface c.args.others lines 0 rects table.sides.items) holds.rects
          ∙ ap (λ sides. panels_from c.args.surface c.args.others lines 0 (rects_of lines) sides) holds.sides;
      count = ap length c.new-panels.ensures;
    }
