-- What names are defined to stand for, and a line in which they are replaced.
use Rattle.std.specs.Prelude.{ℕ, List, [], ◌∷◌, ◌++◌, map, filter, Option, None, Some, is_some, unwrap_or, Result, Ok, Err, if◌then◌else◌}
use Rattle.std.specs.List.{slice_split}
use Rattle.std.specs.Str.{bytes_eq}
use Rattle.smol_text.specs.Lines.{separates}
use Rattle.smol_line.specs.Names.{is_name}
use Rattle.smol_macro.specs.declared.expand_fault.MacroKind.TheVariants.{NotInProfile, RepeatedName, UnknownName, WrongWordCount}
use Rattle.smol_macro.specs.Refusal.{Refusal, at}

-- what each name stands for, where it is defined
abbrev pub Meanings : Type 0
Meanings = List ℕ → Option (List ℕ)

-- no name is defined
abbrev pub nothing_defined : Meanings
nothing_defined name = None

-- the same but for one name, which now stands for this, or for nothing any more
abbrev pub with_meaning : Meanings → List ℕ → Option (List ℕ) → Meanings
with_meaning defined name meaning = λ other. if bytes_eq other name then meaning else defined other

-- words, each with a space before it
abbrev pub spaced : List (List ℕ) → List ℕ
spaced [] = []
spaced (word ∷ words) = 32 ∷ word ++ spaced words

-- words joined by one space
abbrev pub joined : List (List ℕ) → List ℕ
joined [] = []
joined (word ∷ words) = word ++ spaced words

-- a name that isn't defined yet is defined to stand for some words, by the line of this number
abbrev pub defined_as : ℕ → Meanings → List ℕ → List (List ℕ) → Result Meanings Refusal
defined_as number defined name words =
    if is_name name
    then (if is_some (defined name) then Err (at number RepeatedName) else Ok (with_meaning defined name (Some (joined words))))
    else Err (at number NotInProfile)

-- what is defined behind a line `define` with these words behind its first one
abbrev pub defined_by : ℕ → Meanings → List (List ℕ) → Result Meanings Refusal
defined_by number defined [] = Err (at number WrongWordCount)
defined_by number defined (name ∷ words) = defined_as number defined name words

-- what is defined behind a line `undefine` with these words behind its first one
abbrev pub undefined_by : ℕ → Meanings → List (List ℕ) → Result Meanings Refusal
undefined_by number defined [] = Err (at number WrongWordCount)
undefined_by number defined (name ∷ []) = if is_some (defined name) then Ok (with_meaning defined name None) else Err (at number UnknownName)
undefined_by number defined (name ∷ word ∷ words) = Err (at number WrongWordCount)

-- what a piece between separators is replaced by: what it stands for, where it is a defined name, and else it stays
abbrev pub meant : Meanings → List ℕ → List ℕ
meant defined piece = unwrap_or (defined piece) piece

-- pieces with the separators between them
abbrev pub spliced : List (List ℕ) → List ℕ → List ℕ
spliced [] separators = []
spliced (piece ∷ pieces) [] = piece ++ spliced pieces []
spliced (piece ∷ pieces) (b ∷ bs) = piece ++ b ∷ spliced pieces bs

-- a line in which each word that is a defined name is replaced by what it stands for, which isn't looked at again
abbrev pub replaced : Meanings → List ℕ → List ℕ
replaced defined part = spliced (map (meant defined) (slice_split separates part)) (filter separates part)
