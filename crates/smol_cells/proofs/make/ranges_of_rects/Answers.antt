use Rattle.std.proofs.Common.{◌∙◌, ◌++◌, [], ◌∷◌, sym}
use Rattle.std.proofs.lemmas.List.{map_more}
use Rattle.std.proofs.lemmas.List.Elements.{All-push}
use Rattle.smol_cells.specs.Numbered.{boxes_of_rect}
use Rattle.smol_cells.specs.Ranges.{AreAmong}
use Rattle.smol_cells.proofs.make.ranges_of_rects.Goals as goal

pub loop-rect-preserved : goal.loop-rect-preserved
loop-rect-preserved c = record {
  value = c.in_ok-push.ensures.items ∙ (λ t. c.loop-rect.invariant.value t ++ c.between.ensures.value t ∷ [])
      ∙ sym (map_more (boxes_of_rect c.args.grid.now) c.args.rects.now c.loop-rect.rect-index _ c.loop-rect-test.true);
  among = rw c.in_ok-push.ensures.items (All-push (AreAmong c.args.grid.now.counts) c.loop-rect.ranges.items c.between.result c.loop-rect.invariant.among c.between.ensures.among);
}
