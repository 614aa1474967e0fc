-- `panel SHAPE SIGNEDAXIS CORNER ... EDGE ... [NAME]`: a rectangle across an axis. It has a coordinate of its
-- corner for each axis in use, and an edge for each other one.
use Rattle.std.specs.Prelude.{ℕ, ◌+◌, ◌-◌, ◌||◌, ◌==◌, nat_le, nat_lt, not, Bool, true, false, ℤ, pos, ◌+ℤ◌, ◌-ℤ◌, ◌*ℤ◌, List, [], ◌∷◌, ◌++◌, length, drop, Option, None, Some, Result, Ok, Err, if◌then◌else◌, codes}
use Rattle.std.specs.Fmt.{decimal}
use Rattle.std.specs.Str.{bytes_eq}
use Rattle.smol_geom.specs.declared.rect.Rect.{Rect}
use Rattle.smol_text.specs.Reading.{Stated, words_of}
use Rattle.smol_types.specs.declared.fault.Kind.{Kind}
use Rattle.smol_types.specs.declared.fault.Kind.TheVariants.{WrongWordCount, NotInProfile, BadFace, OutOfRange, TooMany, RepeatedName}
use Rattle.smol_types.specs.Limits.{most_panels}
use Rattle.smol_line.specs.Words.{word_at}
use Rattle.smol_line.specs.Checks.{unless, passing, with_value}
use Rattle.smol_line.specs.Numbers.{decimal_in}
use Rattle.smol_line.specs.Names.{is_named, new_name_in}
use Rattle.smol_line.specs.Axis.{axis_in}
use Rattle.smol_line.specs.Length.{micros_in, most_micros}
use Rattle.smol_blocks.specs.declared.panel.Facing.{Facing}

-- whether a word begins with `+` or with `-`
abbrev pub sign_of : List ℕ → Option Bool
sign_of [] = None
sign_of (byte ∷ bytes) = if byte == 43 then Some true else (if byte == 45 then Some false else None)

-- the axis behind a sign is one of those in use
abbrev pub facing_of : ℕ → Option Bool → Result ℕ Kind → Result Facing Kind
facing_of dims None axis = Err BadFace
facing_of dims (Some greater) (Err kind) = Err BadFace
facing_of dims (Some greater) (Ok axis) = if nat_lt axis dims then Ok (record { axis = axis; greater = greater }) else Err OutOfRange

-- the axis that a panel lies across, and whether its front is the side of greater coordinates
abbrev pub facing_in : ℕ → List ℕ → Result Facing Kind
facing_in dims word = facing_of dims (sign_of word) (axis_in 3 (drop 1 word))

-- a coordinate of the corner in micros, which is 0 on an axis that isn't in use
abbrev pub corner_in : ℕ → ℕ → Stated → Result ℤ Kind
corner_in dims axis line = if nat_lt axis dims then micros_in (word_at line (3 + axis)) else Ok (pos 0)

-- the place of the word of an edge: edges stand behind the corner, in the order of their axes
abbrev pub edge_place : ℕ → ℕ → ℕ → ℕ
edge_place dims across axis = 3 + dims + (if nat_lt axis across then axis else axis - 1)

-- an edge in micros, which is above 0 and ends where coordinates do
abbrev pub edge_in : ℤ → List ℕ → Result ℤ Kind
edge_in corner word = decimal_in 6 (pos 1) (pos most_micros -ℤ corner) word

-- how far a panel reaches on an axis, in micros: not at all on the axis that it lies across, and 1 on an axis that isn't in use
abbrev pub extent_in : ℕ → ℕ → ℕ → ℤ → Stated → Result ℤ Kind
extent_in dims across axis corner line =
    if nat_lt axis dims
    then (if axis == across then Ok (pos 0) else edge_in corner (word_at line (edge_place dims across axis)))
    else Ok (pos 1)

-- a place of m micros stands at 2m ticks
abbrev pub ticks_of : ℤ → ℤ
ticks_of micros = pos 2 *ℤ micros

-- the rectangle of a line across this axis: its corner, and then its edges
unfoldable pub rect_in : ℕ → ℕ → Stated → Result Rect Kind
rect_in dims across line =
    with_value (corner_in dims 0 line) (λ x.
    with_value (corner_in dims 1 line) (λ y.
    with_value (corner_in dims 2 line) (λ z.
    with_value (extent_in dims across 0 x line) (λ a.
    with_value (extent_in dims across 1 y line) (λ b.
    with_value (extent_in dims across 2 z line) (λ c.
    Ok (record {
      axis = across;
      low = ticks_of x ∷ ticks_of y ∷ ticks_of z ∷ [];
      high = ticks_of (x +ℤ a) ∷ ticks_of (y +ℤ b) ∷ ticks_of (z +ℤ c) ∷ [];
    })))))))

-- the word of the one shape that there is
abbrev pub is_shape : List ℕ → Bool
is_shape word = bytes_eq word (codes "rect") || bytes_eq word (codes "r")

-- how many words a line has without a name
abbrev pub plain_count : ℕ → ℕ
plain_count dims = 3 + dims + (dims - 1)

-- the rectangle of a line, and how it faces
unfoldable pub shape_in : ℕ → Stated → Result (Facing × Rect) Kind
shape_in dims line =
    passing
    (unless (nat_le 2 (length (words_of line))) WrongWordCount
    ∷ unless (is_shape (word_at line 1)) NotInProfile
    ∷ unless ((length (words_of line) == plain_count dims) || (length (words_of line) == plain_count dims + 1)) WrongWordCount
    ∷ [])
    (with_value (facing_in dims (word_at line 2)) (λ facing.
    with_value (rect_in dims facing.axis line) (λ rect.
    Ok (facing, rect))))

-- the name of a panel behind so many: `rect` and their number
unfoldable pub default_name : ℕ → List ℕ
default_name count = codes "rect" ++ decimal count

-- the name of a panel, beside these names of the surface's panels before it
unfoldable pub name_in : ℕ → List (List ℕ) → Stated → Result (List ℕ) Kind
name_in dims names line =
    if length (words_of line) == plain_count dims
    then passing (unless (not (is_named names (default_name (length names)))) RepeatedName ∷ []) (Ok (default_name (length names)))
    else new_name_in names (word_at line (plain_count dims))

-- a panel with its name
pub record Named : Type 0 where
  pub name : List ℕ
  pub facing : Facing
  pub rect : Rect

-- the panel of a line, beside these names of the surface's panels, where so many panels of other surfaces stand before
unfoldable pub panel_in : ℕ → ℕ → List (List ℕ) → Stated → Result Named Kind
panel_in dims others names line =
    with_value (shape_in dims line) (λ shape.
    with_value (name_in dims names line) (λ name.
    passing (unless (nat_lt (others + length names) most_panels) TooMany ∷ [])
    (Ok (record { name = name; facing = shape.0; rect = shape.1 }))))
