use Rattle.std.proofs.Common.{◌≡◌, sym, ap, subst, ◌∙◌}
use Rattle.smol_cells.specs.declared.boxes.Boxes.{Boxes}
use Rattle.smol_cells.specs.declared.grid.Grid.{Grid}
use Rattle.smol_cells.specs.Numbered.{boxes_between}
use Rattle.smol_pairs.specs.Searching.{AreBoxesIn, IsInBoxes, place_in}
use Rattle.smol_pairs.proofs.RowLemmas.{are_boxes, filled_by, in_boxes, near_itself}
use Rattle.smol_pairs.proofs.SeekerLemmas.{small_place}
use Rattle.smol_pairs.proofs.rows.boxes_around.Goals as goal

pub boxes-requires-clause-filled : goal.boxes-requires-clause-filled
boxes-requires-clause-filled c =
    let search = c.args.search.now in
    let here = place_in search c.args.place in
    filled_by c.around-around.result here
    (c.around-around.ensures.has here (small_place search c.args.place c.requires) (near_itself here _))

pub returns-clause-inside : goal.returns-clause-inside
returns-clause-inside c =
    let search = c.args.search.now in
    let around = c.around-around.result in
    let here = place_in search c.args.place in
    let is : c.boxes.result ≡ boxes_between search.cells.now.grid around.low around.high =
    c.boxes.ensures.value ∙ ap (λ (grid : Grid). boxes_between grid around.low around.high) c.grid.ensures in
    subst (AreBoxesIn search.cells.now.grid) (sym is)
    (are_boxes search.cells.now.grid around here
    (c.around-around.ensures.has here (small_place search c.args.place c.requires) (near_itself here _)))

pub returns-clause-has : goal.returns-clause-has
returns-clause-has c = λ q inside near.
    let search = c.args.search.now in
    let around = c.around-around.result in
    let there = place_in search q in
    let is : c.boxes.result ≡ boxes_between search.cells.now.grid around.low around.high =
    c.boxes.ensures.value ∙ ap (λ (grid : Grid). boxes_between grid around.low around.high) c.grid.ensures in
    subst (λ (boxes : Boxes). IsInBoxes search boxes q) (sym is)
    (in_boxes search.cells.now.grid around there (c.around-around.ensures.has there (small_place search q inside) near))
