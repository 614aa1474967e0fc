-- The cells of places in order are those of their boxes.
use Rattle.std.proofs.Common.{◌≡◌, ◌∙◌, ℕ, ◌<◌, Bool, true, false, List, length, map, get_or, refl, sym, subst, arith}
use Rattle.std.specs.Prelude.{ℤ, ◌≤ℤ◌}
use Rattle.std.proofs.lemmas.Bool.{false≢true}
use Rattle.std.proofs.lemmas.Int.{ints}
use Rattle.std.proofs.lemmas.List.{get_or-map, length-map}
use Rattle.std.proofs.lemmas.List.Elements.{All-map}
use Rattle.smol_geom.specs.declared.place.Place.{Place}
use Rattle.smol_cells.specs.declared.boxes.Boxes.{Boxes}
use Rattle.smol_cells.specs.declared.cells.Cells.{Cells}
use Rattle.smol_cells.specs.declared.grid.Grid.{Grid}
use Rattle.smol_cells.specs.Kept.{AreOf, item, size}
use Rattle.smol_cells.specs.Numbers.{box_at}
use Rattle.smol_cells.specs.Numbered.{boxes_of_place, number_on}
use Rattle.smol_cells.specs.Placed.{AreInOrder, box_of_place, nowhere, place_at}
use Rattle.smol_cells.specs.Ranges.{AreAmong, HasBox, HasNumber, boxes_at}
use Rattle.smol_cells.specs.Starts.{AreStarts, item_of, size_of}
use Rattle.smol_cells.proofs.NumberLemmas.{between_among}

item_in_order : (b : Bool) (items : List ℕ) (p : ℕ) → b ≡ true → item_of b items p ≡ p
item_in_order true items p e = refl
item_in_order false items p e = absurd (false≢true e)

size_in_order : (b : Bool) (items : List ℕ) (count : ℕ) → b ≡ true → size_of b items count ≡ count
size_in_order true items count e = refl
size_in_order false items count e = absurd (false≢true e)

same_coordinate : (x : ℤ) → x ≤ℤ x
same_coordinate x = omega (arith, ints)

-- a place has one box
place_among : (grid : Grid) (place : Place) → AreAmong grid.counts (boxes_of_place grid place)
place_among grid place = between_among grid place.0 place.0 (same_coordinate _, same_coordinate _, same_coordinate _)

place_has : (grid : Grid) (place : Place) → HasNumber grid.counts (boxes_of_place grid place) (box_of_place grid place)
place_has grid place = record {
  x = number_on grid place.0 0;
  y = number_on grid place.0 1;
  z = number_on grid place.0 2;
  has = ((omega arith, omega arith), (omega arith, omega arith), (omega arith, omega arith));
  is = refl;
}

has_one : (grid : Grid) (place : Place) (x y z : ℕ) → HasBox (boxes_of_place grid place) x y z → box_of_place grid place ≡ box_at grid.counts x y z
has_one grid place x y z has =
    let on_x : number_on grid place.0 0 ≡ x = omega (arith, has.0.0, has.0.1) in
    let on_y : number_on grid place.0 1 ≡ y = omega (arith, has.1.0, has.1.1) in
    let on_z : number_on grid place.0 2 ≡ z = omega (arith, has.2.0, has.2.1) in
    λ t. box_at grid.counts (on_x t) (on_y t) (on_z t)

module _ (places : List Place) (cells : Cells) (in_order : AreInOrder places cells) where
  long : length (map (boxes_of_place cells.grid) places) ≡ length places
  long = length-map places (boxes_of_place cells.grid)

  all : size cells ≡ length places
  all = size_in_order cells.in_order cells.items.items cells.count in_order.in_order ∙ in_order.count

  own : (p : ℕ) → item cells p ≡ p
  own p = item_in_order cells.in_order cells.items.items p in_order.in_order

  there : (p : ℕ) → p < length places → boxes_at (map (boxes_of_place cells.grid) places) p ≡ boxes_of_place cells.grid (place_at places p)
  there p below = get_or-map (boxes_of_place cells.grid) places p nowhere _ below

  pub of_in_order : AreOf (map (boxes_of_place cells.grid) places) cells
  of_in_order = record {
    count = in_order.count ∙ sym long;
    among = All-map (AreAmong cells.grid.counts) (boxes_of_place cells.grid) places (λ k d below. place_among cells.grid (get_or places k d));
    number = λ p. box_of_place cells.grid (place_at places p);
    starts = subst (λ n. AreStarts n (λ p. box_of_place cells.grid (place_at places p)) cells.starts.items) (sym all) in_order.starts;
    sound = λ p below.
        let known : p < length places = omega (arith, below, all) in
        let held = subst (λ (b : Boxes). HasNumber cells.grid.counts b (box_of_place cells.grid (place_at places p))) (sym (there p known)) (place_has cells.grid (place_at places p)) in
        subst (λ n. (n < length (map (boxes_of_place cells.grid) places)) × HasNumber cells.grid.counts (boxes_at (map (boxes_of_place cells.grid) places) n) (box_of_place cells.grid (place_at places p)))
        (sym (own p)) (subst (λ n. p < n) (sym long) known, held);
    complete = λ index x y z known has.
        let inside : index < length places = subst (λ n. index < n) long known in
        let one = has_one cells.grid (place_at places index) x y z (subst (λ (b : Boxes). HasBox b x y z) (there index inside) has) in
        (index, subst (λ n. index < n) (sym all) inside, one, own index);
  }
