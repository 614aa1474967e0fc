-- What each line of a file gives, or which file it asks for.
use Rattle.std.specs.Prelude.{ℕ, ◌+◌, ◌&&◌, ◌==◌, Bool, true, false, not, List, [], ◌∷◌, Option, None, Some, Result, Ok, Err, if◌then◌else◌, codes}
use Rattle.std.specs.Str.{bytes_eq}
use Rattle.std.specs.List.{list_all, list_any}
use Rattle.smol_text.specs.declared.line_state.LineState.{LineState}
use Rattle.smol_text.specs.declared.line_state.LineState.TheVariants.{Open, Commented, Ended}
use Rattle.smol_text.specs.Lines.{uncommented, words_in}
use Rattle.smol_text.specs.Reading.{is_open, is_allowed, first_word, standing_after}
use Rattle.smol_macro.specs.declared.expand_fault.MacroKind.TheVariants.{WrongWordCount, TooMany, BadByte, OpenBlock, OpenComment, Cycle}
use Rattle.smol_macro.specs.Refusal.{Refusal, at}
use Rattle.smol_macro.specs.Given.{Given, nothing_given, with_line}
use Rattle.smol_macro.specs.Meanings.{Meanings, nothing_defined, defined_by, undefined_by, replaced}
use Rattle.smol_macro.specs.declared.conditions.Condition.{Condition}
use Rattle.smol_macro.specs.Conditions.{left_out, tests, opened_by, turned_by, closed_by, outermost}

-- a refusal is the answer, and else it goes on from what there is
abbrev pub go_on : {T U E : Type 0} → Result T E → (T → Result U E) → Result U E
go_on (Ok value) on = on value
go_on (Err refusal) on = Err refusal

-- what is read of a line: its part before the comment, where it belongs to no block comment and doesn't end the file
abbrev pub part_read : LineState → LineState → List ℕ → List ℕ
part_read standing next line = if is_open standing && is_open next then uncommented line else []

-- what has been given, what names stand for, and which conditions are open
pub record Walked : Type 0 where
  pub given : Given
  pub defined : Meanings
  pub open_ones : List Condition

-- nothing yet
abbrev pub nothing_walked : Walked
nothing_walked = record { given = nothing_given; defined = nothing_defined; open_ones = [] }

-- one more line is given, and this is what names stand for behind it, and which conditions are open
abbrev pub gives : Given → Meanings → List Condition → List ℕ → Result Walked Refusal
gives given defined open_ones line = go_on (with_line given line) (λ longer. Ok (record { given = longer; defined = defined; open_ones = open_ones }))

-- a line that no condition leaves out, with this first word and these words behind it: one that defines gives an empty
-- line, and another one gives itself with its names replaced
abbrev pub said : ℕ → Walked → List ℕ → List ℕ → List (List ℕ) → Result Walked Refusal
said number walked part word words =
    if bytes_eq word (codes "define")
    then go_on (defined_by number walked.defined words) (λ defined. gives walked.given defined walked.open_ones [])
    else (if bytes_eq word (codes "undefine")
    then go_on (undefined_by number walked.defined words) (λ defined. gives walked.given defined walked.open_ones [])
    else gives walked.given walked.defined walked.open_ones (replaced walked.defined part))

-- a line with this first word that is no directive of conditions gives an empty line where it is left out
abbrev pub said_or_left_out : ℕ → Walked → List ℕ → List ℕ → List (List ℕ) → Result Walked Refusal
said_or_left_out number walked part word words =
    if left_out walked.open_ones then gives walked.given walked.defined walked.open_ones [] else said number walked part word words

-- an empty line is given, and these conditions are open behind it
abbrev pub opens : Walked → List Condition → Result Walked Refusal
opens walked open_ones = gives walked.given walked.defined open_ones []

-- a line with this first word and these words behind it. The four directives of conditions act in left out lines too
abbrev pub obeyed_word : ℕ → Walked → List ℕ → List ℕ → List (List ℕ) → Result Walked Refusal
obeyed_word number walked part word words =
    if bytes_eq word (codes "ifdefine")
    then go_on (opened_by number (tests true walked.defined) walked.open_ones words) (opens walked)
    else (if bytes_eq word (codes "ifundefine")
    then go_on (opened_by number (tests false walked.defined) walked.open_ones words) (opens walked)
    else (if bytes_eq word (codes "else")
    then go_on (turned_by number walked.open_ones words) (opens walked)
    else (if bytes_eq word (codes "endif")
    then go_on (closed_by number walked.open_ones words) (opens walked)
    else said_or_left_out number walked part word words)))

-- a line with these words. Without words it gives itself, unless it is left out
abbrev pub obeyed : ℕ → Walked → List ℕ → List (List ℕ) → Result Walked Refusal
obeyed number walked part [] = gives walked.given walked.defined walked.open_ones (if left_out walked.open_ones then [] else part)
obeyed number walked part (word ∷ words) = obeyed_word number walked part word words

-- what a line came to: what there is behind it, or the name of the file that it asks for
pub data Taken : Type 0 where
  gave : Walked → Taken
  asks : List ℕ → Taken

-- the number under which a line is given of which this is read, where there may be one more and each of its bytes is allowed
abbrev pub numbered : ℕ → List ℕ → Result ℕ Refusal
numbered number part =
    if number == 65537
    then Err (at 65537 TooMany)
    else (if list_all is_allowed part then Ok number else Err (at number BadByte))

-- the words behind `read_file`, where a line with these words begins so and no condition leaves it out
abbrev pub file_words : Walked → List (List ℕ) → Option (List (List ℕ))
file_words walked [] = None
file_words walked (word ∷ words) = if not (left_out walked.open_ones) && bytes_eq word (codes "read_file") then Some words else None

-- whether a name is among these
abbrev pub is_among : List (List ℕ) → List ℕ → Bool
is_among names name = list_any (λ other. bytes_eq other name) names

-- the one word behind a `read_file` of this number, which names a file that isn't among those that are being read
abbrev pub file_named : ℕ → List (List ℕ) → List (List ℕ) → Result (List ℕ) Refusal
file_named number reading [] = Err (at number WrongWordCount)
file_named number reading (name ∷ []) = if is_among reading name then Err (at number Cycle) else Ok name
file_named number reading (name ∷ word ∷ words) = Err (at number WrongWordCount)

-- a line asks for the file that its words name, or else it is obeyed
abbrev pub asked_or_obeyed : ℕ → List (List ℕ) → Walked → List ℕ → Option (List (List ℕ)) → Result Taken Refusal
asked_or_obeyed number reading walked part None = go_on (obeyed number walked part (words_in part)) (λ further. Ok (gave further))
asked_or_obeyed number reading walked part (Some words) = go_on (file_named number reading words) (λ name. Ok (asks name))

-- what a line came to of which this is read, while the files of these names are being read
abbrev pub line_taken : List (List ℕ) → List ℕ → Walked → Result Taken Refusal
line_taken reading part walked =
    go_on (numbered (walked.given.lines + 1) part) (λ number. asked_or_obeyed number reading walked part (file_words walked (words_in part)))

-- how the line behind a line stands. Its number is that of the line that it gives. A left out `end_file` doesn't act
abbrev pub next_standing : LineState → Walked → List ℕ → LineState
next_standing standing walked line =
    if left_out walked.open_ones && bytes_eq (first_word line) (codes "end_file")
    then standing
    else standing_after (walked.given.lines + 1) standing (first_word line)

-- at a file's end no condition is open
abbrev pub closed_given : Option ℕ → Walked → Result Walked Refusal
closed_given None walked = Ok walked
closed_given (Some opened) walked = Err (at opened OpenBlock)

-- nor a comment, which is told first
abbrev pub end_given : LineState → Walked → Result Walked Refusal
end_given Open walked = closed_given (outermost walked.open_ones) walked
end_given (Commented opened) walked = Err (at opened OpenComment)
end_given Ended walked = closed_given (outermost walked.open_ones) walked
