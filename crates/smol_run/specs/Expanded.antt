-- What a file without directives says by itself, and what its expanded text says.
use Rattle.std.specs.Prelude.{◌≡◌, ℕ, nat_lt, true, List, [], length, Option, None, Some, Result, Ok, Err, IsOkAnd, IsErrAnd, if◌then◌else◌, slice_index_or}
use Rattle.smol_text.specs.Reading.{Stated, statements_of}
use Rattle.smol_types.specs.declared.fault.Kind.{Kind}
use Rattle.smol_types.specs.declared.fault.Kind.TheVariants as kind
use Rattle.smol_line.specs.Fault.{Fault, fault_at}
use Rattle.smol_macro.specs.declared.expand_fault.MacroKind.{MacroKind}
use Rattle.smol_macro.specs.declared.expand_fault.MacroKind.TheVariants.{NotInProfile, RepeatedName, UnknownName, WrongWordCount, BadOrder, OpenBlock, TooMany, BadByte, OpenComment, TooLong, Cycle}
use Rattle.smol_macro.specs.Refusal.{Refusal, at, no_file}
use Rattle.smol_macro.specs.Files.{Contents}
use Rattle.smol_macro.specs.Including.{expanded}
use Rattle.smol_macro.specs.Plain.{is_plain}
use Rattle.smol_config.specs.Reader.{config_of, lines_in, most_bytes}
use Rattle.smol_run.specs.declared.words.Job.{Job}
use Rattle.smol_run.specs.declared.words.Job.TheVariants.{File, Make}

-- the kind of the same name among those of a configuration, which has none for a file that includes itself
abbrev pub kind_in : MacroKind → Option Kind
kind_in NotInProfile = Some kind.NotInProfile
kind_in RepeatedName = Some kind.RepeatedName
kind_in UnknownName = Some kind.UnknownName
kind_in WrongWordCount = Some kind.WrongWordCount
kind_in BadOrder = Some kind.BadOrder
kind_in OpenBlock = Some kind.OpenBlock
kind_in TooMany = Some kind.TooMany
kind_in BadByte = Some kind.BadByte
kind_in OpenComment = Some kind.OpenComment
kind_in TooLong = Some kind.TooLong
kind_in Cycle = None

-- a refusal has the line and the kind of a fault
abbrev pub IsTold : Fault → Refusal → Type 0
IsTold fault (at line kind) = (line ≡ fault.line) × (kind_in kind ≡ Some fault.kind)
IsTold fault no_file = ⊥

-- the statements of a text, unless it is too long or its lines have a fault
abbrev pub stated_in : List ℕ → Result (List Stated) Fault
stated_in text = if nat_lt most_bytes (length text) then Err (fault_at 0 kind.TooLong) else lines_in (statements_of text)

-- a file with these statements has an expanded text, which means as a configuration what the file means: one has the content or the
-- fault that the other has. A file that is refused before its statements are judged has none, and is refused for that fault both ways
abbrev pub TellsTheSame : List ℕ → Result (List Stated) Fault → Result (List ℕ) Refusal → Type 0
TellsTheSame file (Ok statements) outcome = IsOkAnd outcome (λ text. config_of text ≡ config_of file)
TellsTheSame file (Err fault) outcome = (config_of file ≡ Err fault) × IsErrAnd outcome (IsTold fault)

-- the file of a name, where there is one, does so unless one of its lines is a directive
abbrev pub FileTellsTheSame : Contents → List ℕ → Option (List ℕ) → Type 0
FileTellsTheSame contents name None = Unit {0}
FileTellsTheSame contents name (Some file) = is_plain file ≡ true → TellsTheSame file (stated_in file) (expanded contents name)

-- the file that the words name does so, where they name one
abbrev pub PlainFileTellsTheSame : Option Job → List (List ℕ) → Contents → Type 0
PlainFileTellsTheSame None words contents = Unit {0}
PlainFileTellsTheSame (Some (File index seed workers runs)) words contents =
    FileTellsTheSame contents (slice_index_or words index []) (contents (slice_index_or words index []))
PlainFileTellsTheSame (Some (Make n)) words contents = Unit {0}
