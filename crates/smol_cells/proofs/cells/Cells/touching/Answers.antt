use Rattle.std.proofs.Common.{◌≡◌, ◌∙◌, ◌↔◌, List, ℕ, sym, subst}
use Rattle.std.specs.Prelude.{Contains}
use Rattle.smol_cells.specs.declared.boxes.Boxes.{Boxes}
use Rattle.smol_cells.specs.Kept.{items_in}
use Rattle.smol_cells.specs.Numbered.{boxes_of_cuboid}
use Rattle.smol_cells.specs.Ranges.{near_of}
use Rattle.smol_cells.specs.TouchingLeft.{touching_left}
use Rattle.smol_cells.proofs.NearLists.{touching_is}
use Rattle.smol_cells.proofs.RowLemmas.{all_rows}
use Rattle.smol_cells.proofs.cells.Cells.touching.Goals as goal

pub returns : goal.returns
returns c = λ ranges of index.
    let cells = c.args.self.now in
    let boxes = c.boxes-boxes.result in
    let found = c.boxes-boxes.ensures in
    let left : touching_left c.from_row.result ≡ items_in cells boxes = c.from_row.ensures.left ∙ all_rows cells boxes found.among in
    subst (λ (xs : List ℕ). Contains xs index ↔ Contains (near_of ranges (boxes_of_cuboid cells.grid c.args.c.now)) index) (sym left)
    (subst (λ (b : Boxes). Contains (items_in cells boxes) index ↔ Contains (near_of ranges b) index) found.value (touching_is ranges cells boxes of found.among index))
