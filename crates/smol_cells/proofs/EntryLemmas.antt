-- The entries of things say what is in which box.
use Rattle.std.proofs.Common.{◌≡◌, ◌∙◌, ℕ, zero, suc, ◌+◌, ◌<◌, List, [], ◌∷◌, length, map, get_or, sym, ap, subst, ⊎_elim, arith}
use Rattle.std.specs.Prelude.{IsPermutation}
use Rattle.std.proofs.lemmas.List.{get_or-map, get_or_default, length-map}
use Rattle.std.proofs.lemmas.List.Elements.{Contains-get_or}
use Rattle.std.proofs.lemmas.List.Sorted.{Contains-permutation, IsPermutation-sym}
use Rattle.smol_geom.specs.Moments.{Has}
use Rattle.smol_cells.specs.declared.boxes.Boxes.{Boxes}
use Rattle.smol_cells.specs.declared.entries.Entry.{Entry}
use Rattle.smol_cells.specs.Entries.{boxes_entries, entries_from, entry_at, layer_entries, number_at, row_entries}
use Rattle.smol_cells.specs.Numbers.{box_at}
use Rattle.smol_cells.specs.Ranges.{HasBox, HasNumber, boxes_at, numbers_on}
use Rattle.smol_cells.proofs.Members.{append_has, contains_of_has, flat_has, has_flat, has_left, has_map, has_numbers, has_of_contains, has_right, map_has, numbers_have}

-- the indexes of entries are the items
pub item_there : (entries : List Entry) (items : List ℕ) → items ≡ map (λ (entry : Entry). entry.index) entries → (p : ℕ) → p < length entries
    → get_or items p 0 ≡ (entry_at entries p).index
item_there entries items are p inside = ap (λ (ns : List ℕ). get_or ns p 0) are ∙ get_or-map (λ (entry : Entry). entry.index) entries p _ 0 inside

pub items_as_many : (entries : List Entry) (items : List ℕ) → items ≡ map (λ (entry : Entry). entry.index) entries → length items ≡ length entries
items_as_many entries items are = ap length are ∙ length-map entries (λ (entry : Entry). entry.index)

module _ (counts : List ℕ) where
  -- the entry says that a thing is in a box
  abbrev pub entry_of : ℕ → ℕ → ℕ → ℕ → Entry
  entry_of index x y z = record { number = box_at counts x y z; index = index }

  has_entry : (boxes : Boxes) (index x y z : ℕ) → HasBox boxes x y z → Has (boxes_entries counts index boxes) (entry_of index x y z)
  has_entry boxes index x y z has =
      has_flat (layer_entries counts boxes index) (numbers_on boxes 2) z (entry_of index x y z) (has_numbers boxes 2 z has.2)
      (has_flat (row_entries counts boxes index z) (numbers_on boxes 1) y (entry_of index x y z) (has_numbers boxes 1 y has.1)
      (has_map (λ n. entry_of index n y z) (numbers_on boxes 0) x (has_numbers boxes 0 x has.0)))

  entry_has : (boxes : Boxes) (index : ℕ) (entry : Entry) → Has (boxes_entries counts index boxes) entry → (entry.index ≡ index) × HasNumber counts boxes entry.number
  entry_has boxes index entry there =
      let in_layer = flat_has (layer_entries counts boxes index) (numbers_on boxes 2) entry there in
      let in_row = flat_has (row_entries counts boxes index in_layer.0) (numbers_on boxes 1) entry in_layer.2 in
      let in_box = map_has (λ n. entry_of index n in_row.0 in_layer.0) (numbers_on boxes 0) entry in_row.2 in (
        ap (λ (e : Entry). e.index) (sym in_box.2),
        record {
          x = in_box.0;
          y = in_row.0;
          z = in_layer.0;
          has = (numbers_have boxes 0 in_box.0 in_box.1, numbers_have boxes 1 in_row.0 in_row.1, numbers_have boxes 2 in_layer.0 in_layer.1);
          is = ap (λ (e : Entry). e.number) (sym in_box.2);
        },
      )

  -- the entry is of the thing at an index, where indexes begin with the first one
  record IsFrom (first : ℕ) (ranges : List Boxes) (entry : Entry) : Type 0 where
    pub at : ℕ
    pub known : at < length ranges
    pub index : entry.index ≡ first + at
    pub number : HasNumber counts (boxes_at ranges at) entry.number

  entries_have : (first : ℕ) (ranges : List Boxes) (entry : Entry) → Has (entries_from counts first ranges) entry → IsFrom first ranges entry
  entries_have first [] entry there = absurd there
  entries_have first (boxes ∷ ranges) entry there = ⊎_elim
      (λ (here : Has (boxes_entries counts first boxes) entry).
      let h = entry_has boxes first entry here in
      record { at = 0; known = omega arith; index = omega (arith, h.0); number = h.1 })
      (λ (later : Has (entries_from counts (suc first) ranges) entry).
      let h = entries_have (suc first) ranges entry later in
      record { at = suc h.at; known = omega (arith, h.known); index = omega (arith, h.index); number = h.number })
      (append_has (boxes_entries counts first boxes) (entries_from counts (suc first) ranges) entry there)

  have_entries : (first : ℕ) (ranges : List Boxes) (at x y z : ℕ) → at < length ranges → HasBox (boxes_at ranges at) x y z
      → Has (entries_from counts first ranges) (entry_of (first + at) x y z)
  have_entries first [] at x y z known has = absurd (omega arith)
  have_entries first (boxes ∷ ranges) zero x y z known has =
      has_left (boxes_entries counts first boxes) (entries_from counts (suc first) ranges) _
      (subst (λ n. Has (boxes_entries counts first boxes) (entry_of n x y z)) (omega arith) (has_entry boxes first x y z has))
  have_entries first (boxes ∷ ranges) (suc at) x y z known has =
      has_right (boxes_entries counts first boxes) (entries_from counts (suc first) ranges) _
      (subst (λ n. Has (entries_from counts (suc first) ranges) (entry_of n x y z)) (omega arith) (have_entries (suc first) ranges at x y z (omega arith) has))

  module _ (ranges : List Boxes) (entries : List Entry) (same : IsPermutation (entries_from counts 0 ranges) entries) where
    -- an entry at a position is of a thing and of one of its boxes
    pub sound_at : (p : ℕ) → p < length entries → ((entry_at entries p).index < length ranges) × HasNumber counts (boxes_at ranges (entry_at entries p).index) (number_at entries p)
    sound_at p inside =
        let there = Contains-permutation entries (entries_from counts 0 ranges) (entry_at entries p) (IsPermutation-sym (entries_from counts 0 ranges) entries same) (Contains-get_or entries p _ inside) in
        let from = entries_have 0 ranges (entry_at entries p) (has_of_contains (entries_from counts 0 ranges) (entry_at entries p) there) in
        let is : (entry_at entries p).index ≡ from.at = omega (arith, from.index) in
        (omega (arith, is, from.known), subst (λ n. HasNumber counts (boxes_at ranges n) (number_at entries p)) (sym is) from.number)

    -- each box of a thing has an entry at some position
    pub complete_at : (index x y z : ℕ) → index < length ranges → HasBox (boxes_at ranges index) x y z
        → (p : ℕ) × (p < length entries) × (number_at entries p ≡ box_at counts x y z) × ((entry_at entries p).index ≡ index)
    complete_at index x y z known has =
        let entry = entry_of (0 + index) x y z in
        let there = Contains-permutation (entries_from counts 0 ranges) entries entry same
        (contains_of_has (entries_from counts 0 ranges) entry (have_entries 0 ranges index x y z known has)) in
        let at : entry_at entries there.0 ≡ entry = get_or_default entries there.0 _ entry there.1 ∙ there.2 in
        (there.0, there.1, ap (λ (e : Entry). e.number) at, ap (λ (e : Entry). e.index) at ∙ omega arith)
