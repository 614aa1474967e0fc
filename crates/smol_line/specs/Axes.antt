-- What the lines before a line give of the axes: how many are in use, and the walls of each.
use Rattle.std.specs.Prelude.{ℕ, ◌+◌, ◌||◌, ◌&&◌, ◌≡◌, ◌<◌, ◌≤◌, nat_le, Bool, true, false, pos, ◌*ℤ◌, ◌<ℤ◌, unsigned_abs, List, [], ◌∷◌, ◌++◌, Option, None, Some, is_some, IfSome, IsSomeAnd, Result, Ok, Err, if◌then◌else◌}
use Rattle.smol_text.specs.Reading.{Stated}
use Rattle.smol_types.specs.declared.fault.Kind.{Kind}
use Rattle.smol_types.specs.declared.fault.Kind.TheVariants.{BadOrder}
use Rattle.smol_types.specs.declared.wall.Wall.{Wall}
use Rattle.smol_line.specs.declared.axes.Axes.{Axes}
use Rattle.smol_line.specs.declared.axes.Bounds.{Bounds}
use Rattle.smol_line.specs.Checks.{there, with_value}
use Rattle.smol_line.specs.Length.{most_micros}
use Rattle.smol_line.specs.Words.{word_at}

-- the most axes that may be in use
abbrev pub most_axes : ℕ
most_axes = 3

-- an axis has walls, where it is one of this many in use
abbrev pub is_walled : ℕ → ℕ → Option Bounds → Bool
is_walled dims axis bounds = nat_le dims axis || is_some bounds

-- each axis in use has its walls
abbrev pub are_walled : ℕ → Axes → Bool
are_walled dims axes = is_walled dims 0 axes.x && is_walled dims 1 axes.y && is_walled dims 2 axes.z

-- a statement that needs `dim` before it
abbrev pub needs_dim : Axes → Result ℕ Kind
needs_dim axes = there axes.dims BadOrder

-- a statement that needs `dim` and the walls of every axis in use before it
abbrev pub needs_walls : Axes → Result ℕ Kind
needs_walls axes = with_value (needs_dim axes) (λ dims. if are_walled dims axes then Ok dims else Err BadOrder)

-- the number of axes is given, and the walls of each of them
abbrev pub AreSettled : Axes → Type 0
AreSettled axes = IsSomeAnd axes.dims (λ dims. are_walled dims axes ≡ true)

-- the low and the high wall of an axis that has some. A wall of m micros stands at 2m ticks
abbrev pub walls_at : ℕ → Option Bounds → List Wall
walls_at axis None = []
walls_at axis (Some bounds) =
    record { axis = axis; plane = pos 2 *ℤ bounds.low.0; upper = false; letter = bounds.letter }
    ∷ record { axis = axis; plane = pos 2 *ℤ bounds.high.0; upper = true; letter = bounds.letter }
    ∷ []

-- the walls of the three axes, in order
unfoldable pub walls_of : Axes → List Wall
walls_of axes = walls_at 0 axes.x ++ walls_at 1 axes.y ++ walls_at 2 axes.z

-- walls of an axis in use: lengths that there are, the low one below the high one
pub record IsBounded (dims : Option ℕ) (axis : ℕ) (bounds : Bounds) : Type 0 where
  pub in_use : IsSomeAnd dims (λ count. axis < count)
  pub low_size : unsigned_abs bounds.low.0 ≤ most_micros
  pub high_size : unsigned_abs bounds.high.0 ≤ most_micros
  pub ordered : bounds.low.0 <ℤ bounds.high.0

-- what is given of the axes is in its ranges
pub record AreAxes (axes : Axes) : Type 0 where
  pub dims : IfSome axes.dims (λ dims. (1 ≤ dims) × (dims ≤ most_axes))
  pub x : IfSome axes.x (IsBounded axes.dims 0)
  pub y : IfSome axes.y (IsBounded axes.dims 1)
  pub z : IfSome axes.z (IsBounded axes.dims 2)

-- what the word of a line for an axis means, where the words of the axes begin at this place. An axis without walls
-- isn't in use, and has this value
abbrev pub read_axis : {T : Type 0} → (Bounds → List ℕ → Result T Kind) → T → ℕ → ℕ → Option Bounds → Stated → Result T Kind
read_axis meaning unused first axis None line = Ok unused
read_axis meaning unused first axis (Some bounds) line = meaning bounds (word_at line (first + axis))

-- what the words of a line for the three axes mean
unfoldable pub read_axes : {T : Type 0} → (Bounds → List ℕ → Result T Kind) → T → ℕ → Axes → Stated → Result (List T) Kind
read_axes meaning unused first axes line =
    with_value (read_axis meaning unused first 0 axes.x line) (λ x.
    with_value (read_axis meaning unused first 1 axes.y line) (λ y.
    with_value (read_axis meaning unused first 2 axes.z line) (λ z.
    Ok (x ∷ y ∷ z ∷ []))))
