use Rattle.std.proofs.Common.{[], List, ℕ, refl, subst, arith}
use Rattle.smol_cells.specs.Kept.{items_in_row}
use Rattle.smol_cells.specs.Next.{IsNext}
use Rattle.smol_cells.specs.Ranges.{first_on}
use Rattle.smol_cells.proofs.Counting.{flat_more}
use Rattle.smol_cells.proofs.cells.Cells.next_in_layer.Goals as goal

pub loop-y-preserved : goal.loop-y-preserved
loop-y-preserved c = record {
  from = omega (arith, c.loop-y.invariant.from);
  next = subst (λ (ns : List ℕ). IsNext ns c.args.least c.earlier-next.result)
      (flat_more (items_in_row c.args.self.now c.args.boxes.now c.args.z) [] _ _ (first_on c.args.boxes.now 1) c.loop-y.y c.loop-y.invariant.from refl refl)
      (c.earlier-next.ensures _ _ c.args.least c.loop-y.invariant.next c.next_in_row.ensures);
}
