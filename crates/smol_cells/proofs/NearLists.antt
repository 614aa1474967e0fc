-- The lists of what is near.
use Rattle.std.proofs.Common.{◌≡◌, ◌∙◌, ℕ, ◌+◌, ◌-◌, ◌<◌, ◌≤◌, ◌↔◌, true, false, List, length, map, get_or, sym, ap, subst, ⊎_elim, arith}
use Rattle.std.specs.Prelude.{ℤ, Contains, filter}
use Rattle.std.proofs.lemmas.Bool.{and_from, and_parts, cases_Bool, false≢true, le-leb}
use Rattle.std.proofs.lemmas.List.{get_or-map, length-map}
use Rattle.smol_geom.specs.declared.cuboid.Cuboid.{Cuboid}
use Rattle.smol_geom.specs.Moments.{Has}
use Rattle.smol_cells.specs.declared.boxes.Boxes.{Boxes}
use Rattle.smol_cells.specs.declared.cells.Cells.{Cells}
use Rattle.smol_cells.specs.declared.grid.Grid.{Grid}
use Rattle.smol_cells.specs.Kept.{AreOf, items_in}
use Rattle.smol_cells.specs.Meeting.{MeetsBetween, ShareNumbers}
use Rattle.smol_cells.specs.Next.{has_number}
use Rattle.smol_cells.specs.Numbered.{boxes_between, boxes_of_cuboid}
use Rattle.smol_cells.specs.Placed.{counted, indexes}
use Rattle.smol_cells.specs.Ranges.{AreAmong, are_meeting, boxes_at, first_on, last_on, meet_on, near_of}
use Rattle.smol_cells.proofs.FilterLemmas.{filter_has, filter_same, has_filter}
use Rattle.smol_cells.proofs.Members.{contains_of_has, counted_has, has_counted, has_of_contains}
use Rattle.smol_cells.proofs.NearLemmas.{has_of_near, leb-true, near_of_has}
use Rattle.smol_cells.proofs.NextLemmas.{has_of_number, number_of_has}
use Rattle.smol_cells.proofs.NumberLemmas.{number_up}

-- an index is near boxes exactly where its boxes meet them
pub near_has : (ranges : List Boxes) (boxes : Boxes) (index : ℕ) → Has (near_of ranges boxes) index → (index < length ranges) × (are_meeting (boxes_at ranges index) boxes ≡ true)
near_has ranges boxes index there =
    let h = filter_has (λ n. are_meeting (boxes_at ranges n) boxes) (indexes (length ranges)) index there in
    let known = counted_has 0 (length ranges) index h.0 in
    (omega (arith, known.1), h.1)

pub has_near : (ranges : List Boxes) (boxes : Boxes) (index : ℕ) → index < length ranges → are_meeting (boxes_at ranges index) boxes ≡ true → Has (near_of ranges boxes) index
has_near ranges boxes index known e =
    has_filter (λ n. are_meeting (boxes_at ranges n) boxes) (indexes (length ranges)) index (has_counted 0 (length ranges) index (omega arith) (omega arith)) e

-- boxes meet exactly where neither ends before the other begins
meet_of_shared : (a b : Boxes) (axis : ℕ) → (first_on a axis ≤ last_on b axis) × (first_on b axis ≤ last_on a axis) → meet_on a b axis ≡ true
meet_of_shared a b axis h = and_from _ _ (le-leb _ _ h.0) (le-leb _ _ h.1)

shared_of_meet : (a b : Boxes) (axis : ℕ) → meet_on a b axis ≡ true → (first_on a axis ≤ last_on b axis) × (first_on b axis ≤ last_on a axis)
shared_of_meet a b axis e = let parts = and_parts _ _ e in (leb-true _ _ parts.0, leb-true _ _ parts.1)

pub meeting_of_shared : (a b : Boxes) → ShareNumbers a b → are_meeting a b ≡ true
meeting_of_shared a b h = and_from _ _ (meet_of_shared a b 0 h.0) (and_from _ _ (meet_of_shared a b 1 h.1) (meet_of_shared a b 2 h.2))

shared_of_meeting : (a b : Boxes) → are_meeting a b ≡ true → ShareNumbers a b
shared_of_meeting a b e =
    let parts = and_parts _ _ e in
    let others = and_parts _ _ parts.1 in
    (shared_of_meet a b 0 parts.0, shared_of_meet a b 1 others.0, shared_of_meet a b 2 others.1)

pub near_shared : (ranges : List Boxes) (boxes : Boxes) (index : ℕ)
    → Contains (near_of ranges boxes) index ↔ ((index < length ranges) × ShareNumbers (boxes_at ranges index) boxes)
near_shared ranges boxes index = (
  λ there. let h = near_has ranges boxes index (has_of_contains (near_of ranges boxes) index there) in (h.0, shared_of_meeting (boxes_at ranges index) boxes h.1),
  λ h. contains_of_has (near_of ranges boxes) index (has_near ranges boxes index h.0 (meeting_of_shared (boxes_at ranges index) boxes h.1)),
)

module _ (ranges : List Boxes) (cells : Cells) (boxes : Boxes) (of : AreOf ranges cells) (among : AreAmong cells.grid.counts boxes) where
  -- what is in the boxes, in order, is what is near them
  pub near_is : filter (has_number (items_in cells boxes)) (counted 0 (cells.count - 0)) ≡ near_of ranges boxes
  near_is =
      let all : cells.count - 0 ≡ length ranges = omega (arith, of.count) in
      ap (λ n. filter (has_number (items_in cells boxes)) (counted 0 n)) all
      ∙ filter_same (has_number (items_in cells boxes)) (λ n. are_meeting (boxes_at ranges n) boxes) (indexes (length ranges)) (λ n there. same n (counted_has 0 (length ranges) n there).1)
    where
      same : (n : ℕ) → n < 0 + length ranges → has_number (items_in cells boxes) n ≡ are_meeting (boxes_at ranges n) boxes
      same n below = ⊎_elim
          (λ (e : are_meeting (boxes_at ranges n) boxes ≡ true). number_of_has (items_in cells boxes) n (has_of_near ranges cells boxes of among n (omega (arith, below)) e) ∙ sym e)
          (λ (e : are_meeting (boxes_at ranges n) boxes ≡ false). ⊎_elim
          (λ (held : has_number (items_in cells boxes) n ≡ true). absurd (false≢true (sym e ∙ (near_of_has ranges cells boxes of among n (has_of_number (items_in cells boxes) n held)).1)))
          (λ (none : has_number (items_in cells boxes) n ≡ false). none ∙ sym e)
          (cases_Bool (has_number (items_in cells boxes) n)))
          (cases_Bool (are_meeting (boxes_at ranges n) boxes))

  -- what is in the boxes, row by row, is what is near them
  pub touching_is : (index : ℕ) → Contains (items_in cells boxes) index ↔ Contains (near_of ranges boxes) index
  touching_is index = (
    λ there. let h = near_of_has ranges cells boxes of among index (has_of_contains (items_in cells boxes) index there) in
        contains_of_has (near_of ranges boxes) index (has_near ranges boxes index h.0 h.1),
    λ there. let h = near_has ranges boxes index (has_of_contains (near_of ranges boxes) index there) in
        contains_of_has (items_in cells boxes) index (has_of_near ranges cells boxes of among index h.0 h.1),
  )

-- what meets a cuboid has boxes that meet those of the cuboid
pub meeting_of_met : (grid : Grid) (c : Cuboid) (low high : List ℤ) → MeetsBetween c low high → ShareNumbers (boxes_between grid low high) (boxes_of_cuboid grid c)
meeting_of_met grid c low high h = (
  (number_up grid 0 _ _ h.0.0, number_up grid 0 _ _ h.0.1),
  (number_up grid 1 _ _ h.1.0, number_up grid 1 _ _ h.1.1),
  (number_up grid 2 _ _ h.2.0, number_up grid 2 _ _ h.2.1),
)

-- of things whose boxes are given by a function, one that meets a cuboid is near it
pub met_near : {T : Type 0} (grid : Grid) (things : List T) (boxes_of : T → Boxes) (nothing : T) (c : Cuboid) (index : ℕ) → index < length things
    → ShareNumbers (boxes_of (get_or things index nothing)) (boxes_of_cuboid grid c) → Contains (near_of (map boxes_of things) (boxes_of_cuboid grid c)) index
met_near grid things boxes_of nothing c index known shared =
    let there : boxes_at (map boxes_of things) index ≡ boxes_of (get_or things index nothing) = get_or-map boxes_of things index nothing _ known in
    (near_shared (map boxes_of things) (boxes_of_cuboid grid c) index).1
    (subst (λ n. index < n) (sym (length-map things boxes_of)) known, subst (λ b. ShareNumbers b (boxes_of_cuboid grid c)) (sym there) shared)
