use Rattle.std.proofs.Common.{◌∙◌, ◌++◌, [], ◌∷◌, sym}
use Rattle.std.proofs.lemmas.List.{map_more}
use Rattle.std.proofs.lemmas.List.Elements.{All-push}
use Rattle.smol_cells.specs.Numbered.{boxes_of_place}
use Rattle.smol_cells.specs.Ranges.{AreAmong}
use Rattle.smol_cells.proofs.make.ranges_of_places.Goals as goal

pub loop-place-preserved : goal.loop-place-preserved
loop-place-preserved c = record {
  value = c.in_ok-push.ensures.items ∙ (λ t. c.loop-place.invariant.value t ++ c.between.ensures.value t ∷ [])
      ∙ sym (map_more (boxes_of_place c.args.grid.now) c.args.places.now c.loop-place.place-index _ c.loop-place-test.true);
  among = rw c.in_ok-push.ensures.items (All-push (AreAmong c.args.grid.now.counts) c.loop-place.ranges.items c.between.result c.loop-place.invariant.among c.between.ensures.among);
}
