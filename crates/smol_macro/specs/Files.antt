-- The files that are read, and which names are asked of a source for them.
use Rattle.std.specs.Prelude.{◌≡◌, ℕ, ◌+◌, nat_le, List, [], ◌∷◌, ◌++◌, length, Option, None, Some, Result, Ok, Err, Vec, if◌then◌else◌}
use Rattle.std.specs.Global.{Global}
use Rattle.smol_edge.specs.Source.{Reading}
use Rattle.smol_macro.specs.declared.expand_fault.MacroKind.TheVariants.{TooLong}
use Rattle.smol_macro.specs.declared.expand_fault.ExpandFault.{ExpandFault}
use Rattle.smol_macro.specs.declared.expand_fault.ExpandFault.TheVariants.{At, ReadFault, OutOfMemory}
use Rattle.smol_macro.specs.Refusal.{Refusal, at, no_file}
use Rattle.smol_macro.specs.Expanding.{go_on}

-- the bytes of each file, where there is one of that name
abbrev pub Contents : Type 0
Contents = List ℕ → Option (List ℕ)

-- the bytes of a file, unless there is none or it has more than 4 MiB
abbrev pub file_in : Option (List ℕ) → Result (List ℕ) Refusal
file_in None = Err no_file
file_in (Some bytes) = if nat_le (length bytes) 4194304 then Ok bytes else Err (at 0 TooLong)

-- bytes that come behind so many, unless they make more than 16 MiB together
abbrev pub added_to : ℕ → List ℕ → Result (List ℕ) Refusal
added_to size bytes = if nat_le (size + length bytes) 16777216 then Ok bytes else Err (at 0 TooLong)

-- the bytes of the file of a name, behind files of so many bytes
abbrev pub bytes_of : Contents → List ℕ → ℕ → Result (List ℕ) Refusal
bytes_of contents name size = go_on (file_in (contents name)) (added_to size)

-- names are a front of others
pub record IsFront (front whole : List (List ℕ)) : Type 0 where
  pub rest : List (List ℕ)
  pub is_front : whole ≡ front ++ rest

-- the file of a name comes to this outcome. Its name is asked of the source, unless it couldn't be read or
-- memory ran out
abbrev pub ReachesBytes : Result (Vec ℕ Global) ExpandFault → Result (List ℕ) Refusal → List (List ℕ) → List (List ℕ) → Type 0
ReachesBytes (Ok bytes) outcome names asked = (outcome ≡ Ok bytes.items) × (asked ≡ names)
ReachesBytes (Err (At line kind)) outcome names asked = (outcome ≡ Err (at line kind)) × (asked ≡ names)
ReachesBytes (Err ReadFault) outcome names asked = IsFront asked names
ReachesBytes (Err OutOfMemory) outcome names asked = IsFront asked names

-- the same by what the source tells before and after the call
pub record ReadsFile (name : List ℕ) (outcome : Contents → Result (List ℕ) Refusal) (result : Result (Vec ℕ Global) ExpandFault) (before after : Reading) : Type 0 where
  pub contents : after.contents ≡ before.contents
  pub asked : IsFront before.asked after.asked
  pub reaches : ReachesBytes result (outcome before.contents) (before.asked ++ name ∷ []) after.asked

-- the names that were asked of the source are a front of those that follow from the files that there are
pub record AsksFront (names : Contents → List (List ℕ)) (before after : Reading) : Type 0 where
  pub contents : after.contents ≡ before.contents
  pub front : List (List ℕ)
  pub is_front : IsFront front (names before.contents)
  pub asked : after.asked ≡ before.asked ++ front

-- and all of these
pub record AsksAll (names : Contents → List (List ℕ)) (before after : Reading) : Type 0 where
  pub contents : after.contents ≡ before.contents
  pub asked : after.asked ≡ before.asked ++ names before.contents

-- the names of the files that are being read, outermost first, and how many bytes all files have that were read so far
pub record BeingRead : Type 0 where
  pub names : List (List ℕ)
  pub size : ℕ
