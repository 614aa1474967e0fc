-- The expanded text of a file: its lines, and those of the files that it asks for.
use Rattle.std.specs.Prelude.{ℕ, zero, suc, ◌+◌, List, [], ◌∷◌, ◌++◌, length, Result, Ok, Err, if◌then◌else◌}
use Rattle.smol_text.specs.declared.line_state.LineState.{LineState}
use Rattle.smol_text.specs.declared.line_state.LineState.TheVariants.{Open}
use Rattle.smol_text.specs.Lines.{raw_lines}
use Rattle.smol_text.specs.Reading.{is_ended}
use Rattle.smol_macro.specs.declared.expand_fault.MacroKind.TheVariants.{TooMany}
use Rattle.smol_macro.specs.Refusal.{Refusal, at}
use Rattle.smol_macro.specs.Files.{Contents, bytes_of}
use Rattle.smol_macro.specs.Expanding.{Walked, nothing_walked, go_on, part_read, opens, Taken, gave, asks, line_taken, next_standing, end_given}

-- what the lines so far have come to, the names of the files that were read for it, in order, and how many bytes these have
-- together
pub record Progress : Type 0 where
  pub walked : Walked
  pub files : List (List ℕ)
  pub size : ℕ

-- nothing yet
abbrev pub nothing_yet : Progress
nothing_yet = record { walked = nothing_walked; files = []; size = 0 }

-- a refusal, and the names of the files that were read until then
pub record Stopped : Type 0 where
  pub refusal : Refusal
  pub files : List (List ℕ)

abbrev pub Outcome : Type 0
Outcome = Result Progress Stopped

-- a refusal that is met when these files were read
abbrev pub met_behind : {T : Type 0} → List (List ℕ) → Result T Refusal → Result T Stopped
met_behind files (Ok value) = Ok value
met_behind files (Err refusal) = Err (record { refusal = refusal; files = files })

-- the same files, and this is what the lines have come to
abbrev pub walked_on : Progress → Walked → Progress
walked_on progress walked = record { walked = walked; files = progress.files; size = progress.size }

-- behind a line: what it gave, or else what the file comes to that it asks for
abbrev pub carried_on : (List ℕ → Progress → Outcome) → Progress → Taken → Outcome
carried_on read progress (gave walked) = Ok (walked_on progress walked)
carried_on read progress (asks name) = read name progress

-- behind a line of which this is read. The files of these names are being read, and `read` says what one more comes to
abbrev pub part_given : List (List ℕ) → (List ℕ → Progress → Outcome) → Progress → List ℕ → Outcome
part_given reading read progress part = go_on (met_behind progress.files (line_taken reading part progress.walked)) (carried_on read progress)

-- behind a line that stands as said, as does the line behind it
abbrev pub line_given : List (List ℕ) → (List ℕ → Progress → Outcome) → LineState → LineState → Progress → List ℕ → Outcome
line_given reading read standing next progress line = part_given reading read progress (part_read standing next line)

-- behind the last line of a file
abbrev pub file_ended : LineState → Progress → Outcome
file_ended standing progress = go_on (met_behind progress.files (end_given standing progress.walked)) (λ walked. Ok (walked_on progress walked))

-- behind these lines of a file, up to the one that ends it
abbrev pub lines_given : List (List ℕ) → (List ℕ → Progress → Outcome) → LineState → Progress → List (List ℕ) → Outcome
lines_given reading read standing progress [] = file_ended standing progress
lines_given reading read standing progress (line ∷ lines) =
    if is_ended standing
    then file_ended standing progress
    else go_on (line_given reading read standing (next_standing standing progress.walked line) progress line) (λ further. lines_given reading read (next_standing standing progress.walked line) further lines)

-- before the first line of a file of so many bytes. None of its own conditions is open
abbrev pub entered : Progress → List ℕ → ℕ → Progress
entered progress name size = record {
  walked = record { given = progress.walked.given; defined = progress.walked.defined; open_ones = [] };
  files = progress.files ++ name ∷ [];
  size = progress.size + size;
}

-- behind a file the conditions are open again that were so before it
abbrev pub left : Progress → Progress → Progress
left before inside = walked_on inside (record { given = inside.walked.given; defined = inside.walked.defined; open_ones = before.walked.open_ones })

-- behind the file of a name, which is read whole and counts as read also where it is refused so. It is among those that are
-- being read
abbrev pub file_given : List (List ℕ) → (List ℕ → Progress → Outcome) → Contents → List ℕ → Progress → Outcome
file_given reading read contents name progress =
    go_on (met_behind (progress.files ++ name ∷ []) (bytes_of contents name progress.size))
    (λ bytes. go_on (lines_given reading read Open (entered progress name (length bytes)) (raw_lines bytes)) (λ inside. Ok (left progress inside)))

-- behind the file that a line asks for while these are being read, where so many more may be. The line gives an empty one
-- before the file's
unfoldable pub file_read : ℕ → Contents → List (List ℕ) → List ℕ → Progress → Outcome
file_read zero contents reading name progress = Err (record { refusal = at (progress.walked.given.lines + 1) TooMany; files = progress.files })
file_read (suc room) contents reading name progress =
    go_on (met_behind progress.files (opens progress.walked progress.walked.open_ones))
    (λ walked. file_given (reading ++ name ∷ []) (file_read room contents (reading ++ name ∷ [])) contents name (walked_on progress walked))

-- what the file of a name comes to among files, of which at most 16 are read at once
abbrev pub outcome_of : Contents → List ℕ → Outcome
outcome_of contents name = file_given (name ∷ []) (file_read 15 contents (name ∷ [])) contents name nothing_yet

abbrev pub text_in : Outcome → Result (List ℕ) Refusal
text_in (Ok progress) = Ok progress.walked.given.text
text_in (Err stopped) = Err stopped.refusal

abbrev pub files_in : Outcome → List (List ℕ)
files_in (Ok progress) = progress.files
files_in (Err stopped) = stopped.files

-- the expanded text of the file of a name among files
unfoldable pub expanded : Contents → List ℕ → Result (List ℕ) Refusal
expanded contents name = text_in (outcome_of contents name)

-- the names of the files that are read for it, up to a refusal. That of a file that isn't there, or is too long, is among them,
-- and one that is refused without being read isn't
unfoldable pub files_of : Contents → List ℕ → List (List ℕ)
files_of contents name = files_in (outcome_of contents name)
