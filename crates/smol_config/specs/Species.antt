-- `species NAME ...`: the names of species, in order. Each is new, and there are 256 at most.
use Rattle.std.specs.Prelude.{ℕ, ◌+◌, nat_le, List, [], ◌∷◌, length, drop, Option, None, Some, Result, Ok}
use Rattle.std.specs.Result.{result_err}
use Rattle.smol_text.specs.Reading.{Stated, words_of}
use Rattle.smol_types.specs.declared.fault.Kind.{Kind}
use Rattle.smol_types.specs.declared.fault.Kind.TheVariants.{WrongWordCount, TooMany}
use Rattle.smol_types.specs.Limits.{most_species}
use Rattle.smol_line.specs.Checks.{unless, passing}
use Rattle.smol_line.specs.Names.{new_name_in, names_fault}
use Rattle.smol_config.specs.Said.{Said, names, gathered}

abbrev pub said_names : Said → Option (List (List ℕ))
said_names (names more) = Some more
said_names other = None

-- the names that the lines before give, in order
abbrev pub species_of : List Said → List (List ℕ)
species_of before = gathered said_names before

-- the fault of a name of a species behind these names
abbrev pub species_fault : List (List ℕ) → List ℕ → Option Kind
species_fault known word = result_err (new_name_in known word)

-- the words behind the first one of a line
abbrev pub further_words : Stated → List (List ℕ)
further_words line = drop 1 (words_of line)

-- the names that a line gives behind these
unfoldable pub species_in : List (List ℕ) → Stated → Result (List (List ℕ)) Kind
species_in known line =
    passing
    (unless (nat_le 2 (length (words_of line))) WrongWordCount
    ∷ names_fault species_fault known (further_words line)
    ∷ unless (nat_le (length known + length (further_words line)) most_species) TooMany
    ∷ [])
    (Ok (further_words line))
