use Rattle.std.proofs.Common.{◌∙◌, ◌++◌, [], ◌∷◌, ap, arith}
use Rattle.smol_cells.specs.Numbers.{box_at}
use Rattle.smol_cells.proofs.Counting.{map_more_counted}
use Rattle.smol_cells.proofs.entries.add_row.Goals as goal

pub loop-x-preserved : goal.loop-x-preserved
loop-x-preserved c = record {
  from = omega (arith, c.loop-x.invariant.from);
  added = map_more_counted (λ x. record { number = box_at c.args.grid.now.counts x c.args.y c.args.z; index = c.args.index }) _ _ _ _ c.loop-x.x
      c.loop-x.invariant.from c.loop-x.invariant.added
      (c.in_ok-push.ensures.items ∙ ap (λ n. c.loop-x.entries.items ++ record { number = n; index = c.args.index } ∷ []) c.number_at-number.ensures.value);
}
