-- `output_files NAME ...`: the names of the files that commands print to. `stdout` and `stderr` are passed over.
use Rattle.std.specs.Prelude.{ℕ, ◌+◌, ◌||◌, nat_le, nat_lt, Bool, not, List, [], ◌∷◌, length, drop, filter, Option, Result, Ok, codes}
use Rattle.std.specs.List.{list_all}
use Rattle.std.specs.Str.{bytes_eq}
use Rattle.smol_text.specs.Reading.{Stated, words_of}
use Rattle.smol_types.specs.declared.fault.Kind.{Kind}
use Rattle.smol_types.specs.declared.fault.Kind.TheVariants.{NotInProfile, RepeatedName, TooMany, WrongWordCount}
use Rattle.smol_types.specs.Limits.{most_outputs}
use Rattle.smol_line.specs.Checks.{unless, passing}
use Rattle.smol_line.specs.Names.{is_named, first_fault, names_fault}

-- a word for an outlet that there is without a file
abbrev pub is_standard : List ℕ → Bool
is_standard word = bytes_eq word (codes "stdout") || bytes_eq word (codes "stderr")

-- a byte of ASCII text. No line of a text that is read has another byte in a word
abbrev pub is_plain : ℕ → Bool
is_plain byte = nat_lt byte 128

-- the fault of a name of a file behind these names, which may be any word but one of them
abbrev pub output_fault : List (List ℕ) → List ℕ → Option Kind
output_fault outputs name =
    first_fault (unless (list_all is_plain name) NotInProfile) (unless (not (is_named outputs name)) RepeatedName)

-- the words that name files
abbrev pub file_names : List (List ℕ) → List (List ℕ)
file_names words = filter (λ word. not (is_standard word)) words

-- the names of files that a line gives: those of its words behind the first one
abbrev pub given_names : Stated → List (List ℕ)
given_names line = file_names (drop 1 (words_of line))

-- the further names that a line gives, beside these names
unfoldable pub output_files_in : List (List ℕ) → Stated → Result (List (List ℕ)) Kind
output_files_in outputs line =
    passing
    (unless (nat_le 2 (length (words_of line))) WrongWordCount
    ∷ names_fault output_fault outputs (given_names line)
    ∷ unless (nat_le (length outputs + length (given_names line)) most_outputs) TooMany
    ∷ [])
    (Ok (given_names line))
