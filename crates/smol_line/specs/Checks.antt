-- The tests of a line, in the order in which they are made: the first that fails is the line's fault, and where
-- none fails the line has its value.
use Rattle.std.specs.Prelude.{ℕ, Bool, true, false, ◌==◌, List, [], ◌∷◌, length, Option, None, Some, Result, Ok, Err}
use Rattle.smol_text.specs.Reading.{Stated, words_of}
use Rattle.smol_types.specs.declared.fault.Kind.{Kind}
use Rattle.smol_types.specs.declared.fault.Kind.TheVariants.{WrongWordCount, RepeatedStatement}

-- a fault, unless the condition holds
abbrev pub unless : Bool → Kind → Option Kind
unless true kind = None
unless false kind = Some kind

-- a statement that stands once at most, by what the lines before give
abbrev pub once : {T : Type 0} → Option T → Option Kind
once None = None
once (Some value) = Some RepeatedStatement

-- a line has this many words, its first one included
abbrev pub word_count : ℕ → Stated → Option Kind
word_count count line = unless (length (words_of line) == count) WrongWordCount

-- what is there, and else a fault
abbrev pub there : {T : Type 0} → Option T → Kind → Result T Kind
there None kind = Err kind
there (Some value) kind = Ok value

-- the first fault of these tests, and else this value or its fault
abbrev pub passing : {T : Type 0} → List (Option Kind) → Result T Kind → Result T Kind
passing [] value = value
passing (None ∷ tests) value = passing tests value
passing (Some kind ∷ tests) value = Err kind

-- what comes of a value, and its fault where it has none
abbrev pub with_value : {T U F : Type 0} → Result T F → (T → Result U F) → Result U F
with_value (Ok value) next = next value
with_value (Err fault) next = Err fault
