-- Why files give no expanded text.
use Rattle.std.specs.Prelude.{◌≡◌, ℕ, List, Result, Ok, Err, codes}
use Rattle.smol_macro.specs.declared.expand_fault.MacroKind.{MacroKind}
use Rattle.smol_macro.specs.declared.expand_fault.MacroKind.TheVariants.{NotInProfile, RepeatedName, UnknownName, WrongWordCount, BadOrder, OpenBlock, TooMany, BadByte, OpenComment, TooLong, Cycle}
use Rattle.smol_macro.specs.declared.expand_fault.ExpandFault.{ExpandFault}
use Rattle.smol_macro.specs.declared.expand_fault.ExpandFault.TheVariants.{At, ReadFault, OutOfMemory}

-- the line of this number is refused, where 0 is the whole, or there is no file of a name
pub data Refusal : Type 0 where
  at : ℕ → MacroKind → Refusal
  no_file : Refusal

-- what is printed behind the number of the line
abbrev pub kind_text : MacroKind → List ℕ
kind_text NotInProfile = codes "not in this profile"
kind_text RepeatedName = codes "name already used"
kind_text UnknownName = codes "unknown name"
kind_text WrongWordCount = codes "wrong number of words"
kind_text BadOrder = codes "statement out of place"
kind_text OpenBlock = codes "block not closed"
kind_text TooMany = codes "too many"
kind_text BadByte = codes "byte not allowed"
kind_text OpenComment = codes "comment not closed"
kind_text TooLong = codes "file too long"
kind_text Cycle = codes "file includes itself"

-- a refusal that is told is that of the files. That a file couldn't be read, or memory ran out, tells nothing
abbrev pub Refuses : {T : Type 0} → ExpandFault → Result T Refusal → Type 0
Refuses (At line kind) outcome = outcome ≡ Err (at line kind)
Refuses ReadFault outcome = Unit {0}
Refuses OutOfMemory outcome = Unit {0}

-- the same where no file is read
abbrev pub RefusesLine : {T : Type 0} → ExpandFault → Result T Refusal → Type 0
RefusesLine (At line kind) outcome = outcome ≡ Err (at line kind)
RefusesLine ReadFault outcome = ⊥
RefusesLine OutOfMemory outcome = Unit {0}

-- a fact for each answer but that a file couldn't be read
abbrev pub UnlessReadFault : {T : Type 0} → Result T ExpandFault → Type 0 → Type 0
UnlessReadFault (Ok value) P = P
UnlessReadFault (Err (At line kind)) P = P
UnlessReadFault (Err ReadFault) P = Unit {0}
UnlessReadFault (Err OutOfMemory) P = P
