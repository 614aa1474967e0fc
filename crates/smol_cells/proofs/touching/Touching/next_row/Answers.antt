use Rattle.std.proofs.Common.{◌≡◌, ◌∙◌, ℕ, ◌+◌, ◌-◌, ◌*◌, ◌<◌, sym, subst}
use Rattle.smol_cells.specs.Ranges.{first_on, last_on}
use Rattle.smol_cells.specs.TouchingLeft.{rows_left}
use Rattle.smol_cells.proofs.RowLemmas.{fewer_rows, next_in_layer, next_layer}
use Rattle.smol_cells.proofs.touching.Touching.next_row.Goals as goal

pub returns-then-self-clause-left : goal.returns-then-self-clause-left
returns-then-self-clause-left c =
    let here = c.args.self.now in
    c.from_row.ensures.left ∙ next_in_layer here.cells.now here.boxes here.z here.y c.if-self.true

pub returns-then-self-2-clause-left : goal.returns-then-self-2-clause-left
returns-then-self-2-clause-left c =
    let here = c.args.self.now in
    c.from_row-then-self-2.ensures.left ∙ next_layer here.cells.now here.boxes here.z here.y here.among.ordered.1 c.if-self.false c.if-self-2.true

pub returns-then-self-2-clause-fewer : goal.returns-then-self-2-clause-fewer
returns-then-self-2-clause-fewer c =
    let here = c.args.self.now in
    let next = c.from_row-then-self-2.ensures in
    let rows : rows_left c.from_row-then-self-2.result ≡ (last_on here.boxes 1 - first_on here.boxes 1) + (last_on here.boxes 2 - (here.z + 1)) * (last_on here.boxes 1 + 1) =
    λ t. (last_on (next.boxes t) 1 - next.y t) + (last_on (next.boxes t) 2 - next.z t) * (last_on (next.boxes t) 1 + 1) in
    subst (λ (n : ℕ). n < rows_left here) (sym rows) (fewer_rows (first_on here.boxes 1) (last_on here.boxes 1) here.y here.z (last_on here.boxes 2) c.if-self-2.true)
