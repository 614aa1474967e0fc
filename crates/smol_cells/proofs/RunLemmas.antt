-- The items of a row of boxes stand between two starts.
use Rattle.std.proofs.Common.{◌≡◌, ℕ, ◌+◌, ◌*◌, ◌<◌, ◌≤◌, ◌↔◌, List, length, get_or, ap, sym, ⊎_elim, arith}
use Rattle.std.proofs.lemmas.Bool.{cases_lt, cases_order}
use Rattle.std.proofs.lemmas.Nat.{row_fits, same_from_place}
use Rattle.smol_geom.specs.declared.place.Place.{Place}
use Rattle.smol_cells.specs.declared.grid.Grid.{Grid}
use Rattle.smol_cells.specs.Numbers.{box_at, count_on, product}
use Rattle.smol_cells.specs.Numbered.{number_on}
use Rattle.smol_cells.specs.Placed.{IsInRow, box_of_place, place_at}
use Rattle.smol_cells.specs.Starts.{AreStarts}
use Rattle.smol_cells.proofs.NumberLemmas.{number_below}

-- a place that is between two of a row is in the row, and its column between theirs
same_row : (r s first last x count : ℕ) → x < count → last < count → r * count + first ≤ s * count + x → s * count + x ≤ r * count + last → r ≡ s
same_row r s first last x count in_x in_last above below = ⊎_elim
    (λ (same : r ≡ s). same)
    (λ h. ⊎_elim
    (λ (less : r < s). let fits = row_fits r count s count less (omega arith) in absurd (omega (arith, fits)))
    (λ (more : s < r). let fits = row_fits s count r count more (omega arith) in absurd (omega (arith, fits)))
    h)
    (cases_order r s)

-- the three numbers of a box that is between two of a row
pub record IsBetween (first last row layer x y z : ℕ) : Type 0 where
  pub on_z : z ≡ layer
  pub on_y : y ≡ row
  pub from : first ≤ x
  pub to : x ≤ last

pub between_of_row : (counts : List ℕ) (first last row layer x y z : ℕ) → x < count_on counts 0 → y < count_on counts 1 → last < count_on counts 0 → row < count_on counts 1
    → box_at counts first row layer ≤ box_at counts x y z → box_at counts x y z ≤ box_at counts last row layer → IsBetween first last row layer x y z
between_of_row counts first last row layer x y z in_x in_y in_last in_row above below =
    let r = layer * count_on counts 1 + row in
    let s = z * count_on counts 1 + y in
    let same : r ≡ s = same_row r s first last x (count_on counts 0) in_x in_last above below in
    let spread : r * count_on counts 0 ≡ s * count_on counts 0 = ap (λ n. n * count_on counts 0) same in
    let parts = same_from_place z y layer row (count_on counts 1) in_y in_row (sym same) in
    record { on_z = parts.0; on_y = parts.1; from = omega (arith, above, spread); to = omega (arith, below, spread) }

pub row_of_between : (counts : List ℕ) (first last row layer x y z : ℕ) → IsBetween first last row layer x y z
    → (box_at counts first row layer ≤ box_at counts x y z) × (box_at counts x y z ≤ box_at counts last row layer)
row_of_between counts first last row layer x y z is =
    let same : box_at counts x y z ≡ box_at counts x row layer = λ i. box_at counts x (is.on_y i) (is.on_z i) in
    (omega (arith, same, is.from), omega (arith, same, is.to))

-- the number of a box is below their count
pub box_below : (counts : List ℕ) (x y z : ℕ) → x < count_on counts 0 → y < count_on counts 1 → z < count_on counts 2 → box_at counts x y z < product counts
box_below counts x y z in_x in_y in_z =
    let rows = row_fits z (count_on counts 1) (count_on counts 2) (count_on counts 1) in_z (omega arith) in
    let row : z * count_on counts 1 + y < count_on counts 2 * count_on counts 1 = omega (arith, rows, in_y) in
    let all = row_fits (z * count_on counts 1 + y) (count_on counts 0) (count_on counts 2 * count_on counts 1) (count_on counts 0) row (omega arith) in
    omega (arith, all, in_x)

-- a position is between the starts of two boxes exactly where its own box is between them
pub between_starts : (size : ℕ) (number : ℕ → ℕ) (starts : List ℕ) (first last q : ℕ) → AreStarts size number starts → first < length starts → last + 1 < length starts
    → ((get_or starts first 0 ≤ q) × (q < get_or starts (last + 1) 0)) ↔ ((q < size) × ((first ≤ number q) × (number q ≤ last)))
between_starts size number starts first last q are in_first in_last = (
  λ h. let inside : q < size = let top = (are (last + 1) in_last).inside in omega (arith, h.1, top) in (
    inside,
    (
      ⊎_elim (λ (lower : number q < first). let less = (are first in_first).before q inside lower in absurd (omega (arith, less, h.0))) (λ (above : first ≤ number q). above) (cases_lt (number q) first),
      ⊎_elim (λ (higher : last < number q). let more = (are (last + 1) in_last).from q inside (omega (arith, higher)) in absurd (omega (arith, more, h.1))) (λ (below : number q ≤ last). below) (cases_lt last (number q)),
    ),
  ),
  λ h. ((are first in_first).from q h.0 h.1.0, (are (last + 1) in_last).before q h.0 (omega (arith, h.1.1))),
)

-- a later box starts no earlier
pub starts_rise : (size : ℕ) (number : ℕ → ℕ) (starts : List ℕ) (first next : ℕ) → AreStarts size number starts → first ≤ next → next < length starts
    → get_or starts first 0 ≤ get_or starts next 0
starts_rise size number starts first next are up in_next =
    let low = are first (omega arith) in
    let high = are next in_next in
    let at = get_or starts next 0 in
    ⊎_elim
    (λ (less : at < get_or starts first 0).
    let inside : at < size = omega (arith, low.inside, less) in
    ⊎_elim
    (λ (lower : number at < first). let before = high.before at inside (omega (arith, lower, up)) in absurd (omega (arith, before)))
    (λ (above : first ≤ number at). let from = low.from at inside above in absurd (omega (arith, from, less)))
    (cases_lt (number at) first))
    (λ (up_to : get_or starts first 0 ≤ at). up_to)
    (cases_lt at (get_or starts first 0))

module _ (grid : Grid) where
  pub run_holds : (places : List Place) (starts : List ℕ) (first last row layer q : ℕ)
      → length starts ≡ product grid.counts + 1 → AreStarts (length places) (λ p. box_of_place grid (place_at places p)) starts
      → first ≤ last → last < count_on grid.counts 0 → row < count_on grid.counts 1 → layer < count_on grid.counts 2
      → ((get_or starts (box_at grid.counts first row layer) 0 ≤ q) × (q < get_or starts (box_at grid.counts last row layer + 1) 0))
      ↔ ((q < length places) × IsInRow grid first last row layer (place_at places q))
  run_holds places starts first last row layer q long are up in_last in_row in_layer =
      let place = place_at places q in
      let x = number_on grid place.0 0 in
      let y = number_on grid place.0 1 in
      let z = number_on grid place.0 2 in
      let first_below = box_below grid.counts first row layer (omega (arith, up, in_last)) in_row in_layer in
      let last_below = box_below grid.counts last row layer in_last in_row in_layer in
      let both = between_starts (length places) (λ p. box_of_place grid (place_at places p)) starts (box_at grid.counts first row layer) (box_at grid.counts last row layer) q are (omega (arith, first_below, long)) (omega (arith, last_below, long)) in (
        λ h. let held = both.0 h in
            let is = between_of_row grid.counts first last row layer x y z (number_below grid place.0 0 grid.some.0) (number_below grid place.0 1 grid.some.1) in_last in_row held.1.0 held.1.1 in
            (held.0, record { on_z = is.on_z; on_y = is.on_y; from = is.from; to = is.to }),
        λ h. let is : IsBetween first last row layer x y z = record { on_z = h.1.on_z; on_y = h.1.on_y; from = h.1.from; to = h.1.to } in
            both.1 (h.0, row_of_between grid.counts first last row layer x y z is),
      )

  pub run_within : (places : List Place) (starts : List ℕ) (first last row layer : ℕ)
      → length starts ≡ product grid.counts + 1 → AreStarts (length places) (λ p. box_of_place grid (place_at places p)) starts
      → first ≤ last → last < count_on grid.counts 0 → row < count_on grid.counts 1 → layer < count_on grid.counts 2
      → (get_or starts (box_at grid.counts first row layer) 0 ≤ get_or starts (box_at grid.counts last row layer + 1) 0)
      × (get_or starts (box_at grid.counts last row layer + 1) 0 ≤ length places)
  run_within places starts first last row layer long are up in_last in_row in_layer =
      let below = box_below grid.counts last row layer in_last in_row in_layer in
      let inside : box_at grid.counts last row layer + 1 < length starts = omega (arith, below, long) in (
        starts_rise (length places) (λ p. box_of_place grid (place_at places p)) starts (box_at grid.counts first row layer) (box_at grid.counts last row layer + 1) are (omega arith) inside,
        (are (box_at grid.counts last row layer + 1) inside).inside,
      )
