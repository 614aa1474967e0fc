-- What is in boxes is what is near them.
use Rattle.std.proofs.Common.{◌≡◌, ◌∙◌, ℕ, ◌+◌, ◌-◌, ◌<◌, ◌≤◌, ◌↔◌, Bool, true, false, List, All, length, max, refl, sym, subst, ⊎_elim, arith}
use Rattle.std.specs.Prelude.{nat_le}
use Rattle.std.proofs.lemmas.Bool.{and_from, and_parts, cases_lt, le-leb, lt-leb, false≢true}
use Rattle.std.proofs.lemmas.List.{get_or_past}
use Rattle.smol_geom.specs.Moments.{Has}
use Rattle.smol_cells.specs.declared.boxes.Boxes.{Boxes}
use Rattle.smol_cells.specs.declared.cells.Cells.{Cells}
use Rattle.smol_cells.specs.Kept.{AreOf, item, items_in, items_in_layer, items_in_row, size}
use Rattle.smol_cells.specs.Numbers.{box_at, count_on, product}
use Rattle.smol_cells.specs.Placed.{counted, start_at}
use Rattle.smol_cells.specs.Ranges.{AreAmong, IsOn, are_meeting, boxes_at, first_on, last_on, meet_on, numbers_on}
use Rattle.smol_cells.specs.Starts.{item_of, size_of}
use Rattle.smol_cells.proofs.Members.{counted_has, flat_has, has_counted, has_flat, has_map, has_numbers, map_has, numbers_have}
use Rattle.smol_cells.proofs.RunLemmas.{between_of_row, between_starts, box_below, row_of_between}

-- a thing in boxes is at a position of one of their rows
pub record IsInRows (cells : Cells) (boxes : Boxes) (index : ℕ) : Type 0 where
  pub z : ℕ
  pub y : ℕ
  pub position : ℕ
  pub on_z : IsOn boxes 2 z
  pub on_y : IsOn boxes 1 y
  pub start : start_at cells (box_at cells.grid.counts (first_on boxes 0) y z) ≤ position
  pub end : position < start_at cells (box_at cells.grid.counts (last_on boxes 0) y z + 1)
  pub is : item cells position ≡ index

module _ (cells : Cells) (boxes : Boxes) where
  pub in_rows : (index : ℕ) → Has (items_in cells boxes) index → IsInRows cells boxes index
  in_rows index there =
      let in_layer = flat_has (items_in_layer cells boxes) (numbers_on boxes 2) index there in
      let z = in_layer.0 in
      let in_row = flat_has (items_in_row cells boxes z) (numbers_on boxes 1) index in_layer.2 in
      let y = in_row.0 in
      let start = start_at cells (box_at cells.grid.counts (first_on boxes 0) y z) in
      let end = start_at cells (box_at cells.grid.counts (last_on boxes 0) y z + 1) in
      let at = map_has (item cells) (counted start (end - start)) index in_row.2 in
      let run = counted_has start (end - start) at.0 at.1 in
      record {
        z = z;
        y = y;
        position = at.0;
        on_z = numbers_have boxes 2 z in_layer.1;
        on_y = numbers_have boxes 1 y in_row.1;
        start = run.0;
        end = omega (arith, run.0, run.1);
        is = at.2;
      }

  pub of_rows : (index : ℕ) → IsInRows cells boxes index → Has (items_in cells boxes) index
  of_rows index rows =
      let start = start_at cells (box_at cells.grid.counts (first_on boxes 0) rows.y rows.z) in
      let end = start_at cells (box_at cells.grid.counts (last_on boxes 0) rows.y rows.z + 1) in
      let at : Has (counted start (end - start)) rows.position = has_counted start (end - start) rows.position rows.start (omega (arith, rows.start, rows.end)) in
      has_flat (items_in_layer cells boxes) (numbers_on boxes 2) rows.z index (has_numbers boxes 2 rows.z rows.on_z)
      (has_flat (items_in_row cells boxes rows.z) (numbers_on boxes 1) rows.y index (has_numbers boxes 1 rows.y rows.on_y)
      (subst (Has (items_in_row cells boxes rows.z rows.y)) rows.is (has_map (item cells) (counted start (end - start)) rows.position at)))

  -- a position before a start is one of an item
  before_end : (box p : ℕ) → p < start_at cells box → p < size cells
  before_end box p below = ⊎_elim
      (λ (inside : box < length cells.starts.items).
      let top : start_at cells box ≤ size cells = cells.inside box 0 inside in omega (arith, below, top))
      (λ (past : length cells.starts.items ≤ box).
      let none : start_at cells box ≡ 0 = get_or_past cells.starts.items box 0 past in absurd (omega (arith, below, none)))
      (cases_lt box (length cells.starts.items))

  item_known : (b : Bool) (items : List ℕ) (count p : ℕ) → All (λ (n : ℕ). n < count) items → p < size_of b items count → item_of b items p < count
  item_known true items count p known below = below
  item_known false items count p known below = known p 0 below

  -- a thing in boxes is one of those that there are
  pub known_in : (index : ℕ) → Has (items_in cells boxes) index → index < cells.count
  known_in index there =
      let rows = in_rows index there in
      let inside = before_end (box_at cells.grid.counts (last_on boxes 0) rows.y rows.z + 1) rows.position rows.end in
      subst (λ n. n < cells.count) rows.is (item_known cells.in_order cells.items.items cells.count rows.position cells.known inside)

-- two ranges of boxes meet exactly where they have a box in common
meet_of_common : (a b : Boxes) (axis n : ℕ) → IsOn a axis n → IsOn b axis n → meet_on a b axis ≡ true
meet_of_common a b axis n on_a on_b = and_from _ _
    (le-leb (first_on a axis) (last_on b axis) (omega (arith, on_a.0, on_b.1)))
    (le-leb (first_on b axis) (last_on a axis) (omega (arith, on_b.0, on_a.1)))

pub leb-true : (m n : ℕ) → nat_le m n ≡ true → m ≤ n
leb-true m n e = ⊎_elim (λ (less : n < m). absurd (false≢true (sym (lt-leb m n less) ∙ e))) (λ (up : m ≤ n). up) (cases_lt n m)

common_of_meet : (a b : Boxes) (axis : ℕ) → first_on a axis ≤ last_on a axis → first_on b axis ≤ last_on b axis → meet_on a b axis ≡ true
    → (n : ℕ) × IsOn a axis n × IsOn b axis n
common_of_meet a b axis up_a up_b e =
    let parts = and_parts _ _ e in
    let low = leb-true (first_on a axis) (last_on b axis) parts.0 in
    let high = leb-true (first_on b axis) (last_on a axis) parts.1 in
    (max (first_on a axis) (first_on b axis), (omega arith, omega (arith, high, up_a)), (omega arith, omega (arith, low, up_b)))

module _ (ranges : List Boxes) (cells : Cells) (boxes : Boxes) (of : AreOf ranges cells) (among : AreAmong cells.grid.counts boxes) where
  long : length cells.starts.items ≡ product cells.grid.counts + 1
  long = sym cells.starts.ok.0 ∙ cells.boxed

  -- the box with these numbers has a start, and so has the one behind it
  behind_inside : (x y z : ℕ) → x < count_on cells.grid.counts 0 → y < count_on cells.grid.counts 1 → z < count_on cells.grid.counts 2
      → box_at cells.grid.counts x y z + 1 < length cells.starts.items
  behind_inside x y z in_x in_y in_z = let below = box_below cells.grid.counts x y z in_x in_y in_z in omega (arith, below, long)

  inside_on : (axis n : ℕ) → last_on boxes axis < count_on cells.grid.counts axis → IsOn boxes axis n → n < count_on cells.grid.counts axis
  inside_on axis n inside on = omega (arith, inside, on.1)

  -- the positions of a row are those whose boxes are in it
  positions : (y z p : ℕ) → IsOn boxes 1 y → IsOn boxes 2 z
      → ((start_at cells (box_at cells.grid.counts (first_on boxes 0) y z) ≤ p) × (p < start_at cells (box_at cells.grid.counts (last_on boxes 0) y z + 1)))
      ↔ ((p < size cells) × ((box_at cells.grid.counts (first_on boxes 0) y z ≤ of.number p) × (of.number p ≤ box_at cells.grid.counts (last_on boxes 0) y z)))
  positions y z p on_y on_z =
      between_starts (size cells) of.number cells.starts.items (box_at cells.grid.counts (first_on boxes 0) y z) (box_at cells.grid.counts (last_on boxes 0) y z) p of.starts
      (let next = behind_inside (first_on boxes 0) y z (omega (arith, among.ordered.0, among.inside.0)) (inside_on 1 y among.inside.1 on_y) (inside_on 2 z among.inside.2 on_z) in omega (arith, next))
      (behind_inside (last_on boxes 0) y z among.inside.0 (inside_on 1 y among.inside.1 on_y) (inside_on 2 z among.inside.2 on_z))

  -- a thing in the boxes is near them
  pub near_of_has : (index : ℕ) → Has (items_in cells boxes) index → (index < length ranges) × (are_meeting (boxes_at ranges index) boxes ≡ true)
  near_of_has index there =
      let counts = cells.grid.counts in
      let rows = in_rows cells boxes index there in
      let at = (positions rows.y rows.z rows.position rows.on_y rows.on_z).0 (rows.start, rows.end) in
      let sound = of.sound rows.position at.0 in
      let range = boxes_at ranges (item cells rows.position) in
      let held = sound.1 in
      let own : AreAmong counts range = of.among (item cells rows.position) _ sound.0 in
      let first : box_at counts (first_on boxes 0) rows.y rows.z ≤ box_at counts held.x held.y held.z = omega (arith, at.1.0, held.is) in
      let last : box_at counts held.x held.y held.z ≤ box_at counts (last_on boxes 0) rows.y rows.z = omega (arith, at.1.1, held.is) in
      let is = between_of_row counts (first_on boxes 0) (last_on boxes 0) rows.y rows.z held.x held.y held.z
      (omega (arith, own.inside.0, held.has.0.1)) (omega (arith, own.inside.1, held.has.1.1)) among.inside.0 (inside_on 1 rows.y among.inside.1 rows.on_y) first last in
      let on_x : meet_on range boxes 0 ≡ true = meet_of_common range boxes 0 held.x held.has.0 (is.from, is.to) in
      let on_y : meet_on range boxes 1 ≡ true = meet_of_common range boxes 1 held.y held.has.1 (subst (IsOn boxes 1) (sym is.on_y) rows.on_y) in
      let on_z : meet_on range boxes 2 ≡ true = meet_of_common range boxes 2 held.z held.has.2 (subst (IsOn boxes 2) (sym is.on_z) rows.on_z) in
      subst (λ n. (n < length ranges) × (are_meeting (boxes_at ranges n) boxes ≡ true)) rows.is (sound.0, and_from _ _ on_x (and_from _ _ on_y on_z))

  -- a thing that is near the boxes is in them
  pub has_of_near : (index : ℕ) → index < length ranges → are_meeting (boxes_at ranges index) boxes ≡ true → Has (items_in cells boxes) index
  has_of_near index known e =
      let counts = cells.grid.counts in
      let range = boxes_at ranges index in
      let own : AreAmong counts range = of.among index _ known in
      let parts = and_parts _ _ e in
      let others = and_parts _ _ parts.1 in
      let x = common_of_meet range boxes 0 own.ordered.0 among.ordered.0 parts.0 in
      let y = common_of_meet range boxes 1 own.ordered.1 among.ordered.1 others.0 in
      let z = common_of_meet range boxes 2 own.ordered.2 among.ordered.2 others.1 in
      let found = of.complete index x.0 y.0 z.0 known (x.1, y.1, z.1) in
      let row = row_of_between counts (first_on boxes 0) (last_on boxes 0) y.0 z.0 x.0 y.0 z.0 (record { on_z = refl; on_y = refl; from = x.2.0; to = x.2.1 }) in
      let at = (positions y.0 z.0 found.0 y.2 z.2).1 (found.1, (omega (arith, row.0, found.2), omega (arith, row.1, found.2))) in
      of_rows cells boxes index (record { z = z.0; y = y.0; position = found.0; on_z = z.2; on_y = y.2; start = at.0; end = at.1; is = found.3 })
