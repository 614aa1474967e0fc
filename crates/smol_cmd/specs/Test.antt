-- `ifno SPECIES+ COMMAND`, `ifless SPECIES+ N COMMAND` and `ifmore SPECIES+ N COMMAND`: tests before a command.
use Rattle.std.specs.Prelude.{ℕ, ◌+◌, nat_le, List, [], ◌∷◌, length, Option, None, Some, Result, Ok, if◌then◌else◌, codes}
use Rattle.std.specs.Str.{bytes_eq}
use Rattle.smol_text.specs.Reading.{Stated, words_of}
use Rattle.smol_types.specs.declared.command.Test.{Test}
use Rattle.smol_types.specs.declared.command.Test.TheVariants as test
use Rattle.smol_types.specs.declared.fault.Kind.{Kind}
use Rattle.smol_types.specs.declared.fault.Kind.TheVariants.{WrongWordCount}
use Rattle.smol_types.specs.Limits.{most_molecules}
use Rattle.smol_line.specs.Words.{word_at}
use Rattle.smol_line.specs.Checks.{unless, passing, with_value}
use Rattle.smol_line.specs.Numbers.{count_in}
use Rattle.smol_cmd.specs.declared.condition.Condition.{Condition}
use Rattle.smol_cmd.specs.declared.condition.Condition.TheVariants as condition
use Rattle.smol_cmd.specs.Who.{who_in}

-- the test that a word begins
unfoldable pub condition_in : List ℕ → Option Condition
condition_in word =
    if bytes_eq word (codes "ifno")
    then Some condition.No
    else (if bytes_eq word (codes "ifless")
    then Some condition.Fewer
    else (if bytes_eq word (codes "ifmore") then Some condition.More else None))

-- how many words a test has before its COMMAND, its first one included
abbrev pub condition_words : Condition → ℕ
condition_words condition.No = 2
condition_words condition.Fewer = 3
condition_words condition.More = 3

-- the number of molecules that a test asks for, whose first word stands at this place
abbrev pub asked_in : Stated → ℕ → Result ℕ Kind
asked_in line at = count_in 0 most_molecules (word_at line (at + 2))

-- the test of a condition, by its words from a place of the line on
abbrev pub test_of : Condition → List (List ℕ) → Stated → ℕ → Result Test Kind
test_of condition.No species line at = with_value (who_in species (word_at line (at + 1))) (λ who. Ok (test.IfNo who))
test_of condition.Fewer species line at =
    with_value (who_in species (word_at line (at + 1))) (λ who.
    with_value (asked_in line at) (λ n.
    Ok (test.IfLess who n)))
test_of condition.More species line at =
    with_value (who_in species (word_at line (at + 1))) (λ who.
    with_value (asked_in line at) (λ n.
    Ok (test.IfMore who n)))

-- the same, where the line has so many words
unfoldable pub test_in : Condition → List (List ℕ) → Stated → ℕ → Result Test Kind
test_in condition species line at =
    passing (unless (nat_le (at + condition_words condition) (length (words_of line))) WrongWordCount ∷ [])
    (test_of condition species line at)
