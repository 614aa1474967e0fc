use Rattle.std.proofs.Common.{[], List, ℕ, refl, subst, arith}
use Rattle.smol_cells.specs.Kept.{items_in_layer}
use Rattle.smol_cells.specs.Next.{IsNext}
use Rattle.smol_cells.specs.Ranges.{first_on}
use Rattle.smol_cells.proofs.Counting.{flat_more}
use Rattle.smol_cells.proofs.cells.Cells.next_in.Goals as goal

pub loop-z-preserved : goal.loop-z-preserved
loop-z-preserved c = record {
  from = omega (arith, c.loop-z.invariant.from);
  next = subst (λ (ns : List ℕ). IsNext ns c.args.least c.earlier-next.result)
      (flat_more (items_in_layer c.args.self.now c.args.boxes.now) [] _ _ (first_on c.args.boxes.now 2) c.loop-z.z c.loop-z.invariant.from refl refl)
      (c.earlier-next.ensures _ _ c.args.least c.loop-z.invariant.next c.next_in_layer.ensures);
}
