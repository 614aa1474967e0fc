-- A word that names a species that there is: its name, with or without a bracket for molecules in solution.
use Rattle.std.specs.Prelude.{ℕ, ◌+◌, ◌&&◌, ◌||◌, ◌==◌, Bool, nat_le, nat_lt, List, length, drop, take, Option, None, Some, Result, Ok, Err, if◌then◌else◌, codes, position}
use Rattle.std.specs.Str.{bytes_eq}
use Rattle.smol_types.specs.declared.fault.Kind.{Kind}
use Rattle.smol_types.specs.declared.fault.Kind.TheVariants.{UnknownName, NotInProfile}
use Rattle.smol_line.specs.declared.species_word.Chosen.{Chosen}

abbrev pub opens_bracket : ℕ → Bool
opens_bracket byte = byte == 40

-- a bracket that means every molecule of the species, which are all in solution
abbrev pub means_all : List ℕ → Bool
means_all bracket = bytes_eq bracket (codes "(all)") || bytes_eq bracket (codes "(soln)") || bytes_eq bracket (codes "(solution)")

-- the part of a species word before its bracket, which begins at this place
abbrev pub cut_at : List ℕ → Option ℕ → Result (List ℕ) Kind
cut_at word None = Ok word
cut_at word (Some at) = if means_all (drop at word) then Ok (take at word) else Err NotInProfile

abbrev pub species_name : List ℕ → Result (List ℕ) Kind
species_name word = cut_at word (position opens_bracket word)

-- the number that was found of a name
abbrev pub number_found : Option ℕ → Result ℕ Kind
number_found None = Err UnknownName
number_found (Some number) = Ok number

-- the number of what a word names, of these names
abbrev pub number_in : List (List ℕ) → List ℕ → Result ℕ Kind
number_in names word = number_found (position (bytes_eq word) names)

-- the number of what has the name, or the fault of the name
abbrev pub number_among : List (List ℕ) → Result (List ℕ) Kind → Result ℕ Kind
number_among names (Ok name) = number_in names name
number_among names (Err kind) = Err kind

-- the number of the species that a word names, of these names
abbrev pub species_word_in : List (List ℕ) → List ℕ → Result ℕ Kind
species_word_in names word = number_among names (species_name word)

-- the one species of a number
abbrev pub one_chosen : Result ℕ Kind → Result Chosen Kind
one_chosen (Ok number) = Ok (record { first = number; end = number + 1 })
one_chosen (Err kind) = Err kind

-- the species that a word means, of these names: the word `all` means each of them
abbrev pub chosen_in : List (List ℕ) → List ℕ → Result Chosen Kind
chosen_in names word =
    if bytes_eq word (codes "all") then Ok (record { first = 0; end = length names }) else one_chosen (species_word_in names word)

-- whether the species of a number is among these
abbrev pub is_chosen : ℕ → Chosen → Bool
is_chosen number chosen = nat_le chosen.first number && nat_lt number chosen.end
