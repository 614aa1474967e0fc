-- What a walk holds, and what a call answers of it.
use Rattle.std.specs.Prelude.{◌≡◌, List, [], ◌∷◌, ◌++◌, ℕ, Option, None, Some, Result, Ok, Err}
use Rattle.smol_edge.specs.Source.{Reading}
use Rattle.smol_text.specs.declared.line_state.LineState.TheVariants.{Open}
use Rattle.smol_text.specs.Lines.{raw_lines}
use Rattle.smol_macro.specs.declared.expand_fault.ExpandFault.{ExpandFault}
use Rattle.smol_macro.specs.declared.expand_fault.ExpandFault.TheVariants.{At, ReadFault, OutOfMemory}
use Rattle.smol_macro.specs.declared.walk.Walk.{Walk}
use Rattle.smol_macro.specs.Refusal.{at}
use Rattle.smol_macro.specs.Kept.{meanings_of}
use Rattle.smol_macro.specs.Conditions.{conditions_of}
use Rattle.smol_macro.specs.Files.{Contents, BeingRead, IsFront}
use Rattle.smol_macro.specs.Expanding.{Walked, Taken, gave, asks}
use Rattle.smol_macro.specs.Including.{Progress, Outcome, files_in, part_given, lines_given, file_given, file_read}

-- what has been given, what names stand for, and which conditions are open
abbrev pub walked_of : Walk → Walked
walked_of walk = record { given = walk.output; defined = meanings_of walk.definitions; open_ones = conditions_of walk.conditions }

-- what a line came to, by the name of the file that it asks for and by what there is behind it
abbrev pub taken_of : Option (List ℕ) → Walked → Taken
taken_of None walked = gave walked
taken_of (Some name) walked = asks name

-- how far a walk has come, with the names that were asked of a source
abbrev pub progress_of : Walk → BeingRead → List (List ℕ) → Progress
progress_of walk files asked = record { walked = walked_of walk; files = asked; size = files.size }

-- what a call answers is the outcome, which is as said where there is no refusal. The names that were asked of the source are
-- those of the outcome, or a front of them where a file couldn't be read or memory ran out
abbrev pub Reaches : Result (Unit {0}) ExpandFault → Outcome → Progress → List (List ℕ) → Type 0
Reaches (Ok value) outcome progress asked = outcome ≡ Ok progress
Reaches (Err (At line kind)) outcome progress asked = outcome ≡ Err (record { refusal = at line kind; files = asked })
Reaches (Err ReadFault) outcome progress asked = IsFront asked (files_in outcome)
Reaches (Err OutOfMemory) outcome progress asked = IsFront asked (files_in outcome)

-- the same of a call that reads, by what the source tells before and after it. An outcome follows from the files that there
-- are, and from how far the walk had come
pub record Reads (result : Result (Unit {0}) ExpandFault) (outcome : Contents → Progress → Outcome) (start end : List (List ℕ) → Progress) (before after : Reading) : Type 0 where
  pub contents : after.contents ≡ before.contents
  pub asked : IsFront before.asked after.asked
  pub reaches : Reaches result (outcome before.contents (start before.asked)) (end after.asked) after.asked

-- behind a file, while files of these names are being read and so many more may be
abbrev pub gives_file : List (List ℕ) → ℕ → List ℕ → Contents → Progress → Outcome
gives_file reading room name contents progress = file_given (reading ++ name ∷ []) (file_read room contents (reading ++ name ∷ [])) contents name progress

-- behind all lines of the innermost file
abbrev pub gives_lines : List (List ℕ) → ℕ → List ℕ → Contents → Progress → Outcome
gives_lines reading room bytes contents progress = lines_given reading (file_read room contents reading) Open progress (raw_lines bytes)

-- behind a line of it, of which this is read
abbrev pub gives_line : List (List ℕ) → ℕ → List ℕ → Contents → Progress → Outcome
gives_line reading room part contents progress = part_given reading (file_read room contents reading) progress part
