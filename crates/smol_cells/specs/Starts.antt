-- Where the items of boxes start, where items stand in the order of their boxes.
use Rattle.std.specs.Prelude.{ℕ, ◌<◌, ◌≤◌, Bool, List, if◌then◌else◌, length, slice_index}

-- how many items there are: in order each thing is the item at its own index, and no items are kept
abbrev pub size_of : Bool → List ℕ → ℕ → ℕ
size_of in_order items count = if in_order then count else length items

-- the item at a position
abbrev pub item_of : Bool → List ℕ → ℕ → ℕ
item_of in_order items position = if in_order then position else slice_index items position

-- the items of lower boxes stand before the start of a box, and the others don't; `number` is the box of each position
pub record IsStart (size : ℕ) (number : ℕ → ℕ) (box start : ℕ) : Type 0 where
  pub inside : start ≤ size
  pub before : (q : ℕ) → q < size → number q < box → q < start
  pub from : (q : ℕ) → q < size → box ≤ number q → start ≤ q

-- each of the starts is that of the box of its place
abbrev pub AreStarts : ℕ → (ℕ → ℕ) → List ℕ → Type 0
AreStarts size number starts = (box : ℕ) → box < length starts → IsStart size number box (slice_index starts box)
