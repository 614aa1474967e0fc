use Rattle.std.proofs.Common.{◌≡◌, ◌∙◌, ◌<◌, List, [], length, get_or, map, arith, ap, sym, subst, ℕ, IsPermutation, All}
use Rattle.std.proofs.lemmas.List.{get_or-map, length-map}
use Rattle.smol_cells.specs.declared.boxes.Boxes.{Boxes}
use Rattle.smol_cells.specs.Kept.{AreOf}
use Rattle.smol_cells.specs.Numbered.{boxes_of_place}
use Rattle.smol_geom.specs.declared.place.Place.{Place}
use Rattle.smol_types.specs.declared.state.Mol.{Mol}
use Rattle.smol_cells.specs.Placed.{AreInOrder, indexes, place_at}
use Rattle.smol_cells.proofs.InOrder.{of_in_order}
use Rattle.smol_stats.specs.Radial.{mol_at}
use Rattle.smol_stats.proofs.Permuted.{boxes_in_order, moved_mols, order_low}
use Rattle.smol_stats.proofs.around.sorted_of.Goals as goal

pub in_box_order-requires : goal.in_box_order-requires
in_box_order-requires c k d there =
    let mols = c.args.mols.now in
    let nobody : Mol = record { serial = 0; species = 0; place = record { 0 = [] } } in
    let are : c.deref.result.now ≡ map (λ (mol : Mol). mol.place) mols = c.deref.ensures.value ∙ c.in_ok-places.ensures in
    let long : length c.deref.result.now ≡ length mols = ap length are ∙ length-map {B = Place} mols (λ (mol : Mol). mol.place) in
    let within : k < length mols = omega (arith, there, long) in
    let same : get_or c.deref.result.now k d ≡ (get_or mols k nobody).place = ap (λ (l : List Place). get_or l k d) are ∙ get_or-map (λ (mol : Mol). mol.place) mols k nobody d within in
    let small = c.requires.places k nobody within in
    rw same (omega (arith, small.0), omega (arith, small.1), omega (arith, small.2))

pub mols_in-requires : goal.mols_in-requires
mols_in-requires c =
    let mols = c.args.mols.now in
    let order = c.in_ok-made.made.order.items in
    let are : c.deref.result.now ≡ map (λ (mol : Mol). mol.place) mols = c.deref.ensures.value ∙ c.in_ok-places.ensures in
    let long : length c.deref.result.now ≡ length mols = ap length are ∙ length-map {B = Place} mols (λ (mol : Mol). mol.place) in
    let moved : IsPermutation (indexes (length mols)) order = subst (λ n. IsPermutation (indexes n) order) long c.in_ok-made.ensures.order in
    subst (λ (l : List ℕ). All (λ index. index < length mols) l) (sym c.deref-2.ensures.value) (order_low (length mols) order moved)

pub returns-clause-order : goal.returns-clause-order
returns-clause-order c =
    let mols = c.args.mols.now in
    let order = c.in_ok-made.made.order.items in
    let are : c.deref.result.now ≡ map (λ (mol : Mol). mol.place) mols = c.deref.ensures.value ∙ c.in_ok-places.ensures in
    let long : length c.deref.result.now ≡ length mols = ap length are ∙ length-map {B = Place} mols (λ (mol : Mol). mol.place) in
    let moved : IsPermutation (indexes (length mols)) order = subst (λ n. IsPermutation (indexes n) order) long c.in_ok-made.ensures.order in
    let found : c.in_ok-mols.mols.items ≡ map (mol_at mols) order = c.in_ok-mols.ensures ∙ ap (λ (l : List ℕ). map (mol_at mols) l) c.deref-2.ensures.value in
    subst (λ (l : List Mol). IsPermutation mols l) (sym found) (moved_mols mols order moved)

pub returns-clause-cells : goal.returns-clause-cells
returns-clause-cells c =
    let mols = c.args.mols.now in
    let order = c.in_ok-made.made.order.items in
    let cells = c.in_ok-made.made.cells in
    let are : c.deref.result.now ≡ map (λ (mol : Mol). mol.place) mols = c.deref.ensures.value ∙ c.in_ok-places.ensures in
    let found : c.in_ok-mols.mols.items ≡ map (mol_at mols) order = c.in_ok-mols.ensures ∙ ap (λ (l : List ℕ). map (mol_at mols) l) c.deref-2.ensures.value in
    let placed : AreInOrder (map (place_at (map (λ (mol : Mol). mol.place) mols)) order) cells =
    subst (λ (l : List Place). AreInOrder (map (place_at l) order) cells) are c.in_ok-made.ensures.cells in
    let of = of_in_order (map (place_at (map (λ (mol : Mol). mol.place) mols)) order) cells placed in
    let boxes : map (boxes_of_place cells.grid) (map (place_at (map (λ (mol : Mol). mol.place) mols)) order) ≡ map (λ (mol : Mol). boxes_of_place cells.grid mol.place) c.in_ok-mols.mols.items =
    boxes_in_order cells.grid mols order ∙ ap (λ (l : List Mol). map (λ (mol : Mol). boxes_of_place cells.grid mol.place) l) (sym found) in
    subst (λ (l : List Boxes). AreOf l cells) boxes of
