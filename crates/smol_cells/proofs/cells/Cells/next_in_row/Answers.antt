use Rattle.std.proofs.Common.{◌≡◌, ◌∙◌, ◌-◌, List, ℕ, sym, subst}
use Rattle.smol_cells.specs.Kept.{items_between, items_in_row}
use Rattle.smol_cells.specs.Next.{IsNext}
use Rattle.smol_cells.specs.Placed.{counted}
use Rattle.smol_cells.proofs.Counting.{items_in_order}
use Rattle.smol_cells.proofs.cells.Cells.next_in_row.Goals as goal

pub returns-then-self : goal.returns-then-self
returns-then-self c =
    let cells = c.args.self.now in
    let run = c.run-positions.result in
    let row : counted run.start (run.end - run.start) ≡ items_in_row cells c.args.boxes.now c.args.z c.args.y =
    sym (items_in_order cells.in_order cells.items.items (counted run.start (run.end - run.start)) c.if-self.true)
    ∙ (λ t. items_between cells (c.run-positions.ensures.start t) (c.run-positions.ensures.end t)) in
    subst (λ (ns : List ℕ). IsNext ns c.args.least c.run_from.result) row c.run_from.ensures

pub returns-else-self : goal.returns-else-self
returns-else-self c =
    let cells = c.args.self.now in
    let run = c.run-positions.result in
    let row : items_between cells run.start run.end ≡ items_in_row cells c.args.boxes.now c.args.z c.args.y =
    (λ t. items_between cells (c.run-positions.ensures.start t) (c.run-positions.ensures.end t)) in
    subst (λ (ns : List ℕ). IsNext ns c.args.least c.next_among.result) row c.next_among.ensures
