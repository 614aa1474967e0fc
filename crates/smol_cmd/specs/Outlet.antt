-- A word that names an outlet: standard output, standard error or an output file.
use Rattle.std.specs.Prelude.{ℕ, ◌+◌, List, Option, None, Some, Result, Ok, Err, if◌then◌else◌, codes, position}
use Rattle.std.specs.Str.{bytes_eq}
use Rattle.smol_types.specs.declared.fault.Kind.{Kind}
use Rattle.smol_types.specs.declared.fault.Kind.TheVariants.{UnknownOutlet}

-- the outlet of an output file, of which the first is outlet 2
abbrev pub file_outlet : Option ℕ → Result ℕ Kind
file_outlet None = Err UnknownOutlet
file_outlet (Some number) = Ok (2 + number)

-- the outlet that a word names, where output files have these names
unfoldable pub outlet_in : List (List ℕ) → List ℕ → Result ℕ Kind
outlet_in outputs word =
    if bytes_eq word (codes "stdout")
    then Ok 0
    else (if bytes_eq word (codes "stderr") then Ok 1 else file_outlet (position (bytes_eq word) outputs))
