-- No expanded text has more than 4 MiB.
use Rattle.std.proofs.Common.{◌≡◌, ℕ, zero, suc, ◌+◌, ◌≤◌, Bool, true, false, List, [], ◌∷◌, ◌++◌, length, Option, None, Some, Result, Ok, Err, IfOk, refl, arith, nat_le, if◌then◌else◌, codes}
use Rattle.std.proofs.lemmas.Bool.{leb-true}
use Rattle.std.specs.Str.{bytes_eq}
use Rattle.smol_text.specs.declared.line_state.LineState.{LineState}
use Rattle.smol_text.specs.declared.line_state.LineState.TheVariants.{Open, Commented, Ended}
use Rattle.smol_text.specs.Lines.{raw_lines, words_in}
use Rattle.smol_text.specs.Reading.{is_ended}
use Rattle.smol_macro.specs.declared.conditions.Condition.{Condition}
use Rattle.smol_macro.specs.declared.expand_fault.MacroKind.TheVariants.{TooLong}
use Rattle.smol_macro.specs.Refusal.{Refusal, at}
use Rattle.smol_macro.specs.Given.{Given, text_with, with_line}
use Rattle.smol_macro.specs.Meanings.{Meanings, defined_by, undefined_by, replaced}
use Rattle.smol_macro.specs.Conditions.{left_out, tests, opened_by, turned_by, closed_by, outermost}
use Rattle.smol_macro.specs.Files.{Contents, bytes_of}
use Rattle.smol_macro.specs.Expanding.{Walked, go_on, part_read, gives, said, opens, obeyed, obeyed_word, Taken, gave, asks, numbered, file_words, file_named, asked_or_obeyed, line_taken, next_standing, closed_given, end_given}
use Rattle.smol_macro.specs.Including.{Progress, Outcome, met_behind, walked_on, carried_on, part_given, line_given, file_ended, lines_given, entered, left, file_given, file_read, nothing_yet, outcome_of, text_in, expanded}

-- the text that has been given has at most 4 MiB
abbrev IsShort : Given → Type 0
IsShort given = length given.text ≤ 4194304

abbrev WalksShort : Walked → Type 0
WalksShort walked = IsShort walked.given

abbrev ComesShort : Progress → Type 0
ComesShort progress = WalksShort progress.walked

-- where a line gives it
abbrev TakesShort : Taken → Type 0
TakesShort (gave walked) = WalksShort walked
TakesShort (asks name) = Unit {0}

-- what comes of a short one is short
abbrev KeepsShort : (Progress → Outcome) → Type 0
KeepsShort on = (progress : Progress) → ComesShort progress → IfOk (on progress) ComesShort

anything : {T E : Type 0} (result : Result T E) → IfOk result (λ value. Unit {0})
anything (Ok value) = tt
anything (Err refusal) = tt

on_from : {T U E : Type 0} (P : T → Type 0) (Q : U → Type 0) (result : Result T E) (on : T → Result U E) → IfOk result P → ((value : T) → P value → IfOk (on value) Q) → IfOk (go_on result on) Q
on_from P Q (Ok value) on is each = each value is
on_from P Q (Err refusal) on is each = tt

on_any : {T U E : Type 0} (Q : U → Type 0) (result : Result T E) (on : T → Result U E) → ((value : T) → IfOk (on value) Q) → IfOk (go_on result on) Q
on_any Q (Ok value) on each = each value
on_any Q (Err refusal) on each = tt

either : {T E : Type 0} (P : T → Type 0) (test : Bool) (one other : Result T E) → IfOk one P → IfOk other P → IfOk (if test then one else other) P
either P true one other first second = first
either P false one other first second = second

met : {T : Type 0} (P : T → Type 0) (files : List (List ℕ)) (result : Result T Refusal) → IfOk result P → IfOk (met_behind files result) P
met P files (Ok value) is = is
met P files (Err refusal) is = tt

line_short_of : (given : Given) (line : List ℕ) (test : Bool) → nat_le (length (text_with given line)) 4194304 ≡ test → IfOk (if test then Ok (record { text = text_with given line; lines = given.lines + 1 }) else Err (at 0 TooLong)) IsShort
line_short_of given line true is = leb-true (length (text_with given line)) 4194304 is
line_short_of given line false is = tt

line_short : (given : Given) (line : List ℕ) → IfOk (with_line given line) IsShort
line_short given line = line_short_of given line (nat_le (length (text_with given line)) 4194304) refl

-- each line that is given leaves a short text
gives_short : (given : Given) (defined : Meanings) (open_ones : List Condition) (line : List ℕ) → IfOk (gives given defined open_ones line) WalksShort
gives_short given defined open_ones line =
    on_from IsShort WalksShort (with_line given line) _ (line_short given line) (λ longer short. short)

opens_short : (walked : Walked) (open_ones : List Condition) → IfOk (opens walked open_ones) WalksShort
opens_short walked open_ones = gives_short walked.given walked.defined open_ones []

said_short : (number : ℕ) (walked : Walked) (part word : List ℕ) (words : List (List ℕ)) → IfOk (said number walked part word words) WalksShort
said_short number walked part word words =
    either WalksShort (bytes_eq word (codes "define")) _ _
    (on_any WalksShort (defined_by number walked.defined words) _ (λ defined. gives_short walked.given defined walked.open_ones []))
    (either WalksShort (bytes_eq word (codes "undefine")) _ _
    (on_any WalksShort (undefined_by number walked.defined words) _ (λ defined. gives_short walked.given defined walked.open_ones []))
    (gives_short walked.given walked.defined walked.open_ones (replaced walked.defined part)))

word_short : (number : ℕ) (walked : Walked) (part word : List ℕ) (words : List (List ℕ)) → IfOk (obeyed_word number walked part word words) WalksShort
word_short number walked part word words =
    either WalksShort (bytes_eq word (codes "ifdefine")) _ _
    (on_any WalksShort (opened_by number (tests true walked.defined) walked.open_ones words) (opens walked) (opens_short walked))
    (either WalksShort (bytes_eq word (codes "ifundefine")) _ _
    (on_any WalksShort (opened_by number (tests false walked.defined) walked.open_ones words) (opens walked) (opens_short walked))
    (either WalksShort (bytes_eq word (codes "else")) _ _
    (on_any WalksShort (turned_by number walked.open_ones words) (opens walked) (opens_short walked))
    (either WalksShort (bytes_eq word (codes "endif")) _ _
    (on_any WalksShort (closed_by number walked.open_ones words) (opens walked) (opens_short walked))
    (either WalksShort (left_out walked.open_ones) _ _
    (gives_short walked.given walked.defined walked.open_ones [])
    (said_short number walked part word words)))))

obeyed_short : (number : ℕ) (walked : Walked) (part : List ℕ) (words : List (List ℕ)) → IfOk (obeyed number walked part words) WalksShort
obeyed_short number walked part [] = gives_short walked.given walked.defined walked.open_ones _
obeyed_short number walked part (word ∷ words) = word_short number walked part word words

asked_short : (number : ℕ) (reading : List (List ℕ)) (walked : Walked) (part : List ℕ) (words : Option (List (List ℕ))) → IfOk (asked_or_obeyed number reading walked part words) TakesShort
asked_short number reading walked part None =
    on_from WalksShort TakesShort (obeyed number walked part (words_in part)) _ (obeyed_short number walked part (words_in part)) (λ further short. short)
asked_short number reading walked part (Some words) =
    on_any TakesShort (file_named number reading words) _ (λ name. tt)

taken_short : (reading : List (List ℕ)) (part : List ℕ) (walked : Walked) → IfOk (line_taken reading part walked) TakesShort
taken_short reading part walked =
    on_any TakesShort (numbered (walked.given.lines + 1) part) _
    (λ number. asked_short number reading walked part (file_words walked (words_in part)))

-- a line, and the file that it asks for, leave a short text
part_short : (reading : List (List ℕ)) (read : List ℕ → Progress → Outcome) → ((name : List ℕ) → KeepsShort (read name)) → (part : List ℕ) → KeepsShort (λ progress. part_given reading read progress part)
part_short reading read keeps part progress short =
    on_from TakesShort ComesShort (met_behind progress.files (line_taken reading part progress.walked)) (carried_on read progress)
    (met TakesShort progress.files (line_taken reading part progress.walked) (taken_short reading part progress.walked))
    carried
  where
    carried : (taken : Taken) → TakesShort taken → IfOk (carried_on read progress taken) ComesShort
    carried (gave walked) is = is
    carried (asks name) is = keeps name progress short

closed_short : (opened : Option ℕ) (walked : Walked) → WalksShort walked → IfOk (closed_given opened walked) WalksShort
closed_short None walked short = short
closed_short (Some line) walked short = tt

end_short : (standing : LineState) (walked : Walked) → WalksShort walked → IfOk (end_given standing walked) WalksShort
end_short Open walked short = closed_short (outermost walked.open_ones) walked short
end_short (Commented opened) walked short = tt
end_short Ended walked short = closed_short (outermost walked.open_ones) walked short

ended_short : (standing : LineState) → KeepsShort (file_ended standing)
ended_short standing progress short =
    on_from WalksShort ComesShort (met_behind progress.files (end_given standing progress.walked)) _
    (met WalksShort progress.files (end_given standing progress.walked) (end_short standing progress.walked short))
    (λ walked is. is)

-- the lines of a file do
lines_short : (reading : List (List ℕ)) (read : List ℕ → Progress → Outcome) → ((name : List ℕ) → KeepsShort (read name)) → (lines : List (List ℕ)) (standing : LineState) → KeepsShort (λ progress. lines_given reading read standing progress lines)
lines_short reading read keeps [] standing progress short = ended_short standing progress short
lines_short reading read keeps (line ∷ lines) standing progress short =
    let next = next_standing standing progress.walked line in
    either ComesShort (is_ended standing) (file_ended standing progress) _
    (ended_short standing progress short)
    (on_from ComesShort ComesShort (line_given reading read standing next progress line) (λ further. lines_given reading read next further lines)
    (part_short reading read keeps (part_read standing next line) progress short)
    (lines_short reading read keeps lines next))

-- a file does
file_short : (reading : List (List ℕ)) (read : List ℕ → Progress → Outcome) → ((name : List ℕ) → KeepsShort (read name)) → (contents : Contents) (name : List ℕ) → KeepsShort (file_given reading read contents name)
file_short reading read keeps contents name progress short =
    on_any ComesShort (met_behind (progress.files ++ name ∷ []) (bytes_of contents name progress.size)) _
    (λ bytes. on_from ComesShort ComesShort (lines_given reading read Open (entered progress name (length bytes)) (raw_lines bytes)) (λ inside. Ok (left progress inside))
    (lines_short reading read keeps (raw_lines bytes) Open (entered progress name (length bytes)) short)
    (λ inside is. is))

-- and so does one that a line asks for
read_short : (room : ℕ) (contents : Contents) (reading : List (List ℕ)) (name : List ℕ) → KeepsShort (file_read room contents reading name)
unfolding file_read
read_short zero contents reading name progress short = tt
read_short (suc room) contents reading name progress short =
    on_from WalksShort ComesShort (met_behind progress.files (opens progress.walked progress.walked.open_ones)) _
    (met WalksShort progress.files (opens progress.walked progress.walked.open_ones) (opens_short progress.walked progress.walked.open_ones))
    (λ walked is. file_short (reading ++ name ∷ []) (file_read room contents (reading ++ name ∷ [])) (read_short room contents (reading ++ name ∷ [])) contents name (walked_on progress walked) is)

text_short : (outcome : Outcome) → IfOk outcome ComesShort → IfOk (text_in outcome) (λ text. length text ≤ 4194304)
text_short (Ok progress) short = short
text_short (Err stopped) short = tt

-- an expanded text is short
pub expanded-short : (contents : Contents) (name : List ℕ) → IfOk (expanded contents name) (λ text. length text ≤ 4194304)
unfolding expanded
expanded-short contents name =
    text_short (outcome_of contents name)
    (file_short (name ∷ []) (file_read 15 contents (name ∷ [])) (read_short 15 contents (name ∷ [])) contents name nothing_yet (omega arith))
