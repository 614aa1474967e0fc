-- `cmd WHEN ... COMMAND ...`: a command, the tests before it, and when it is due.
use Rattle.std.specs.Prelude.{ℕ, zero, suc, ◌+◌, nat_le, nat_lt, List, [], ◌∷◌, length, Option, None, Some, Result, Ok, Err}
use Rattle.smol_text.specs.Reading.{Stated, words_of}
use Rattle.smol_types.specs.declared.command.Act.{Act}
use Rattle.smol_types.specs.declared.command.Command.{Command}
use Rattle.smol_types.specs.declared.command.Test.{Test}
use Rattle.smol_types.specs.declared.fault.Kind.{Kind}
use Rattle.smol_types.specs.declared.fault.Kind.TheVariants.{WrongWordCount, TooMany}
use Rattle.smol_types.specs.Limits.{most_commands, most_tests}
use Rattle.smol_line.specs.Axes.{needs_walls}
use Rattle.smol_line.specs.Words.{word_at}
use Rattle.smol_line.specs.Checks.{unless, passing, with_value}
use Rattle.smol_cmd.specs.declared.condition.Condition.{Condition}
use Rattle.smol_cmd.specs.Known.{Known}
use Rattle.smol_cmd.specs.When.{when_in}
use Rattle.smol_cmd.specs.Act.{act_in}
use Rattle.smol_cmd.specs.Test.{condition_in, condition_words, test_in}

-- a test comes before the tests of the COMMAND behind it
abbrev pub behind_test : Test → List Test × Act → Result (List Test × Act) Kind
behind_test test inner = Ok (test ∷ inner.0, inner.1)

-- the tests and the act of a COMMAND at a place, where its word begins this test or none. Behind a test stands another COMMAND
abbrev pub command_of : Option Condition → Known → Stated → ℕ → (ℕ → Result (List Test × Act) Kind) → Result (List Test × Act) Kind
command_of None known line at inner = with_value (act_in known line at) (λ act. Ok ([], act))
command_of (Some condition) known line at inner =
    with_value (test_in condition known.species line at) (λ test.
    with_value (inner (at + condition_words condition)) (behind_test test))

-- the tests and the act of a COMMAND at a place, where no more than so many words are left
abbrev pub command_in : ℕ → Known → Stated → ℕ → Result (List Test × Act) Kind
command_in zero known line at = Err WrongWordCount
command_in (suc left) known line at =
    passing (unless (nat_lt at (length (words_of line))) WrongWordCount ∷ [])
    (command_of (condition_in (word_at line at)) known line at (λ next. command_in left known line next))

-- the command of a line, by what the lines before give, so many commands among it
unfoldable pub cmd_in : Known → ℕ → Stated → Result Command Kind
cmd_in known count line =
    with_value (needs_walls known.axes) (λ dims.
    with_value (when_in line) (λ due.
    with_value (command_in (length (words_of line)) known line due.1) (λ does.
    passing
    (unless (nat_le (length does.0) most_tests) TooMany
    ∷ unless (nat_lt count most_commands) TooMany
    ∷ [])
    (Ok (record { «when» = due.0; tests = does.0; act = does.1 })))))
