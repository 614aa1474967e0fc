-- Words that name an axis.
use Rattle.std.specs.Prelude.{ℕ, ◌||◌, nat_lt, List, Option, None, Some, Result, Ok, Err, if◌then◌else◌, codes}
use Rattle.std.specs.Str.{bytes_eq}
use Rattle.smol_types.specs.declared.fault.Kind.{Kind}
use Rattle.smol_types.specs.declared.fault.Kind.TheVariants.{UnknownName, OutOfRange}

-- the axis that a word names: a letter or a number
unfoldable pub axis_named : List ℕ → Option ℕ
axis_named word =
    if bytes_eq word (codes "x") || bytes_eq word (codes "0")
    then Some 0
    else (if bytes_eq word (codes "y") || bytes_eq word (codes "1")
    then Some 1
    else (if bytes_eq word (codes "z") || bytes_eq word (codes "2") then Some 2 else None))

-- an axis is one of those in use
abbrev pub axis_below : ℕ → Option ℕ → Result ℕ Kind
axis_below dims None = Err UnknownName
axis_below dims (Some axis) = if nat_lt axis dims then Ok axis else Err OutOfRange

-- the axis in use that a word names
abbrev pub axis_in : ℕ → List ℕ → Result ℕ Kind
axis_in dims word = axis_below dims (axis_named word)
