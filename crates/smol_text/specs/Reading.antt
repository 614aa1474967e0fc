-- How the lines of a text are read: block comments, and the end of the text. The lines before a line stand nearest first.
use Rattle.std.specs.Prelude.{◌≡◌, ℕ, ◌+◌, ◌||◌, ◌==◌, Bool, true, false, not, ◌&&◌, nat_le, List, [], ◌∷◌, ◌++◌, length, Option, None, Some, Result, Ok, Err, if◌then◌else◌, codes, slice_get, unwrap_or}
use Rattle.std.specs.List.{list_all}
use Rattle.std.specs.Str.{bytes_eq}
use Rattle.smol_text.specs.declared.line_state.LineState.{LineState}
use Rattle.smol_text.specs.declared.line_state.LineState.TheVariants.{Open, Commented, Ended}
use Rattle.smol_text.specs.declared.text_fault.TextFault.{TextFault}
use Rattle.smol_text.specs.declared.text_fault.TextFault.TheVariants.{BadByte, OpenComment, TooManyLines, OutOfMemory}
use Rattle.smol_text.specs.Lines.{raw_lines, uncommented, words, words_in}

-- a line that makes a statement: its number, and its part before the comment as it stands in the text
pub record Stated : Type 0 where
  pub number : ℕ
  pub part : List ℕ

-- the words of a line that makes a statement
abbrev pub words_of : Stated → List (List ℕ)
words_of line = words_in line.part

-- why a text isn't split into lines: a byte that isn't allowed in the line of this number, a block comment that the
-- line of this number opened and none closed, or a line more than there may be
pub data LinesFault : Type 0 where
  bad_byte : ℕ → LinesFault
  open_comment : ℕ → LinesFault
  too_many_lines : LinesFault

-- a line stands open to be read: neither within the block comment that an earlier line opened nor behind the end of the text
abbrev pub is_open : LineState → Bool
is_open Open = true
is_open (Commented opened) = false
is_open Ended = false

-- a line stands behind the end of the text
abbrev pub is_ended : LineState → Bool
is_ended Open = false
is_ended (Commented opened) = false
is_ended Ended = true

-- the first word of a line, and no bytes where there is none
abbrev pub first_word : List ℕ → List ℕ
first_word line = unwrap_or (slice_get (words line) 0) []

-- how the line behind a line of this number stands, by how that one stands and by its first word
abbrev pub standing_after : ℕ → LineState → List ℕ → LineState
standing_after number Open word =
    if bytes_eq word (codes "/*") then Commented number else (if bytes_eq word (codes "end_file") then Ended else Open)
standing_after number (Commented opened) word = if bytes_eq word (codes "*/") then Open else Commented opened
standing_after number Ended word = Ended

-- how the line behind these lines stands
abbrev pub standing : List (List ℕ) → LineState
standing [] = Open
standing (line ∷ before) = standing_after (length before + 1) (standing before) (first_word line)

-- a line is read where it stands open and neither opens a comment nor ends the text
abbrev pub is_read : List (List ℕ) → List ℕ → Bool
is_read before line = is_open (standing before) && is_open (standing (line ∷ before))

-- a tab, a carriage return, a space, or a byte that can be seen
abbrev pub is_allowed : ℕ → Bool
is_allowed b = b == 9 || b == 13 || (nat_le 32 b && nat_le b 126)

-- the fault of a line behind these lines: one line more than 65,536, or a byte that isn't allowed before the comment of a line that is read
abbrev pub line_fault : List (List ℕ) → List ℕ → Option LinesFault
line_fault before line =
    if is_ended (standing before)
    then None
    else (if length before == 65536
    then Some too_many_lines
    else (if is_read before line && not (list_all is_allowed (uncommented line)) then Some (bad_byte (length before + 1)) else None))

-- the statement of this part of a line, where it is read and has a word
abbrev pub stated_if : Bool → ℕ → List ℕ → List (List ℕ) → List Stated
stated_if false number part words = []
stated_if true number part [] = []
stated_if true number part (word ∷ words) = record { number = number; part = part } ∷ []

-- the statement that a line behind these lines makes
abbrev pub stated : List (List ℕ) → List ℕ → List Stated
stated before line = stated_if (is_read before line) (length before + 1) (uncommented line) (words line)

-- behind the last line a comment is still open, or nothing is at fault
abbrev pub end_fault : LineState → Result (List Stated) LinesFault
end_fault Open = Ok []
end_fault (Commented opened) = Err (open_comment opened)
end_fault Ended = Ok []

-- a fault ends the reading, and else these statements come before the others
abbrev pub behind : Option LinesFault → List Stated → Result (List Stated) LinesFault → Result (List Stated) LinesFault
behind (Some fault) statements rest = Err fault
behind None statements (Ok more) = Ok (statements ++ more)
behind None statements (Err fault) = Err fault

-- reading on behind these lines
abbrev pub statements_from : List (List ℕ) → List (List ℕ) → Result (List Stated) LinesFault
statements_from before [] = end_fault (standing before)
statements_from before (line ∷ lines) =
    behind (line_fault before line) (stated before line) (statements_from (line ∷ before) lines)

-- the lines of a text that make statements, or the first fault
unfoldable pub statements_of : List ℕ → Result (List Stated) LinesFault
statements_of text = statements_from [] (raw_lines text)

-- a fault that is told is that of the text, and want of memory tells nothing
abbrev pub TellsLines : TextFault → Result (List Stated) LinesFault → Type 0
TellsLines (BadByte line) outcome = outcome ≡ Err (bad_byte line)
TellsLines (OpenComment line) outcome = outcome ≡ Err (open_comment line)
TellsLines TooManyLines outcome = outcome ≡ Err too_many_lines
TellsLines OutOfMemory outcome = Unit {0}
