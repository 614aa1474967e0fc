-- The things in the rows behind a row.
use Rattle.std.proofs.Common.{◌≡◌, ◌∙◌, ℕ, ◌+◌, ◌-◌, ◌*◌, ◌<◌, ◌≤◌, List, ◌∷◌, ◌++◌, suc, map, add-one, sym, ap, arith}
use Rattle.std.specs.Prelude.{flat_map}
use Rattle.std.proofs.lemmas.List.{append_assoc}
use Rattle.std.proofs.lemmas.Nat.{row_fits}
use Rattle.smol_cells.specs.declared.boxes.Boxes.{Boxes}
use Rattle.smol_cells.specs.declared.cells.Cells.{Cells}
use Rattle.smol_cells.specs.Kept.{item, items_between, items_in, items_in_layer, items_in_row}
use Rattle.smol_cells.specs.Placed.{counted}
use Rattle.smol_cells.specs.Ranges.{AreAmong, first_on, last_on}
use Rattle.smol_cells.specs.TouchingLeft.{behind_row}
use Rattle.smol_cells.proofs.Counting.{flat_first}

module _ (cells : Cells) (boxes : Boxes) where
  -- the next row of a layer is the first behind the row
  pub next_in_layer : (z y : ℕ) → y < last_on boxes 1
      → items_in_row cells boxes z (y + 1) ++ behind_row cells boxes z (y + 1) ≡ behind_row cells boxes z y
  next_in_layer z y below =
      let row = items_in_row cells boxes z in
      let last = last_on boxes 1 in
      let layers = flat_map (items_in_layer cells boxes) (counted (z + 1) (last_on boxes 2 - z)) in
      let count : last + 1 - (y + 1) ≡ last - y = omega arith in
      sym (append_assoc (row (y + 1)) (flat_map row (counted (y + 1 + 1) (last - (y + 1)))) layers)
      ∙ ap (λ xs. xs ++ layers) (sym (flat_first row (y + 1) last (omega arith)) ∙ ap (λ n. flat_map row (counted (y + 1) n)) count)

  -- the rows of a layer and those behind it
  layer_first : (z y : ℕ) → y ≤ last_on boxes 1 → (rest : List ℕ)
      → items_in_row cells boxes z y ++ (flat_map (items_in_row cells boxes z) (counted (y + 1) (last_on boxes 1 - y)) ++ rest)
      ≡ flat_map (items_in_row cells boxes z) (counted y (last_on boxes 1 + 1 - y)) ++ rest
  layer_first z y up rest =
      let row = items_in_row cells boxes z in
      sym (append_assoc (row y) (flat_map row (counted (y + 1) (last_on boxes 1 - y))) rest)
      ∙ ap (λ xs. xs ++ rest) (sym (flat_first row y (last_on boxes 1) up))

  -- behind the last row of a layer the first row of the next layer stands
  pub next_layer : (z y : ℕ) → first_on boxes 1 ≤ last_on boxes 1 → last_on boxes 1 ≤ y → z < last_on boxes 2
      → items_in_row cells boxes (z + 1) (first_on boxes 1) ++ behind_row cells boxes (z + 1) (first_on boxes 1) ≡ behind_row cells boxes z y
  next_layer z y up past below =
      let layer = items_in_layer cells boxes in
      let last = last_on boxes 2 in
      let none : last_on boxes 1 - y ≡ 0 = omega arith in
      let count : last + 1 - (z + 1) ≡ last - z = omega arith in
      layer_first (z + 1) (first_on boxes 1) up (flat_map layer (counted (z + 1 + 1) (last - (z + 1))))
      ∙ sym (flat_first layer (z + 1) last (omega arith))
      ∙ ap (λ n. flat_map layer (counted (z + 1) n)) count
      ∙ ap (λ n. flat_map (items_in_row cells boxes z) (counted (y + 1) n) ++ flat_map layer (counted (z + 1) (last - z))) (sym none)

  -- the first row with all behind it is all
  pub all_rows : AreAmong cells.grid.counts boxes
      → items_in_row cells boxes (first_on boxes 2) (first_on boxes 1) ++ behind_row cells boxes (first_on boxes 2) (first_on boxes 1) ≡ items_in cells boxes
  all_rows among =
      let layer = items_in_layer cells boxes in
      let z = first_on boxes 2 in
      layer_first z (first_on boxes 1) among.ordered.1 (flat_map layer (counted (z + 1) (last_on boxes 2 - z)))
      ∙ sym (flat_first layer z (last_on boxes 2) among.ordered.2)

-- there are fewer rows from the first row of the next layer on
pub fewer_rows : (first last y z top : ℕ) → z < top → (last - first) + (top - (z + 1)) * (last + 1) < (last - y) + (top - z) * (last + 1)
fewer_rows first last y z top below =
    let fits = row_fits (top - (z + 1)) (last + 1) (top - z) (last + 1) (omega arith) (omega arith) in
    omega (arith, fits)

-- the first of the things at positions
pub items_first : (cells : Cells) (at end : ℕ) → at < end → items_between cells at end ≡ item cells at ∷ items_between cells (at + 1) end
items_first cells at end below =
    let count : end - at ≡ suc (end - (at + 1)) = omega arith in
    ap (λ n. map (item cells) (counted at n)) count
    ∙ ap (λ n. item cells at ∷ map (item cells) (counted n (end - (at + 1)))) (sym (add-one at))
