-- `boundaries AXIS LOW HIGH [LETTER]`: the two walls of an axis, and what they do. It stands once for each axis in use.
use Rattle.std.specs.Prelude.{ℕ, ◌||◌, ◌==◌, int_lt, List, [], ◌∷◌, length, Option, Result, Ok, Err, if◌then◌else◌, codes}
use Rattle.std.specs.Str.{bytes_eq}
use Rattle.smol_text.specs.Reading.{Stated, words_of}
use Rattle.smol_types.specs.declared.fault.Kind.{Kind}
use Rattle.smol_types.specs.declared.fault.Kind.TheVariants.{WrongWordCount, OutOfRange, BadAction}
use Rattle.smol_types.specs.declared.wall.Letter.{Letter}
use Rattle.smol_types.specs.declared.wall.Letter.TheVariants.{R, P, A, T}
use Rattle.smol_line.specs.declared.axes.Axes.{Axes}
use Rattle.smol_line.specs.declared.axes.Bounds.{Bounds}
use Rattle.smol_line.specs.Axes.{needs_dim}
use Rattle.smol_line.specs.Words.{word_at}
use Rattle.smol_line.specs.Checks.{unless, once, passing, with_value}
use Rattle.smol_line.specs.Axis.{axis_in}
use Rattle.smol_line.specs.Length.{micros_in}

-- what the walls do, by their letter
unfoldable pub letter_in : List ℕ → Result Letter Kind
letter_in word =
    if bytes_eq word (codes "r")
    then Ok R
    else (if bytes_eq word (codes "p") then Ok P
    else (if bytes_eq word (codes "a") then Ok A
    else (if bytes_eq word (codes "t") then Ok T else Err BadAction)))

-- the letter of a line, which is `t` where it has none
abbrev pub line_letter : Stated → Result Letter Kind
line_letter line = if length (words_of line) == 5 then letter_in (word_at line 4) else Ok T

-- the walls that a line gives, whatever axis it names
unfoldable pub bounds_in : Stated → Result Bounds Kind
bounds_in line =
    with_value (micros_in (word_at line 2)) (λ low.
    with_value (micros_in (word_at line 3)) (λ high.
    with_value (line_letter line) (λ letter.
    passing (unless (int_lt low high) OutOfRange ∷ [])
    (Ok (record { low = record { 0 = low }; high = record { 0 = high }; letter = letter })))))

-- the walls of an axis, by its number
abbrev pub bounds_at : ℕ → Axes → Option Bounds
bounds_at axis axes = if axis == 0 then axes.x else (if axis == 1 then axes.y else axes.z)

unfoldable pub boundaries_in : Axes → Stated → Result (ℕ × Bounds) Kind
boundaries_in axes line =
    with_value (needs_dim axes) (λ dims.
    passing (unless ((length (words_of line) == 4) || (length (words_of line) == 5)) WrongWordCount ∷ [])
    (with_value (axis_in dims (word_at line 1)) (λ axis.
    with_value (bounds_in line) (λ bounds.
    passing (once (bounds_at axis axes) ∷ []) (Ok (axis, bounds))))))
