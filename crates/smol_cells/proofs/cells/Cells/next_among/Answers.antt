use Rattle.std.proofs.Common.{◌≡◌, ◌-◌, [], ◌∷◌, List, ℕ, map, refl, subst, arith}
use Rattle.smol_cells.specs.Kept.{item}
use Rattle.smol_cells.specs.Next.{IsNext}
use Rattle.smol_cells.specs.Placed.{counted}
use Rattle.smol_cells.proofs.Counting.{map_more_counted}
use Rattle.smol_cells.proofs.cells.Cells.next_among.Goals as goal

pub loop-position-preserved : goal.loop-position-preserved
loop-position-preserved c = record {
  from = omega (arith, c.loop-position.invariant.from);
  to = omega (arith, c.loop-position-test.true, c.loop-position.invariant.from);
  next = subst (λ (ns : List ℕ). IsNext ns c.args.least c.earlier-next.result)
      (map_more_counted (item c.args.self.now) [] _ _ c.args.run.start c.loop-position.position c.loop-position.invariant.from refl refl)
      (c.earlier-next.ensures _ _ c.args.least c.loop-position.invariant.next
      (subst (λ (n : ℕ). IsNext (n ∷ []) c.args.least c.run_of_one.result) c.item.ensures.value c.run_of_one.ensures));
}

pub returns : goal.returns
returns c =
    let same : c.loop-position.position - c.args.run.start ≡ c.args.run.end - c.args.run.start =
    omega (arith, c.loop-position-test.false, c.loop-position.invariant.to) in
    subst (λ (n : ℕ). IsNext (map (item c.args.self.now) (counted c.args.run.start n)) c.args.least c.loop-position.next) same c.loop-position.invariant.next
