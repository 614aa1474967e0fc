-- A source in memory, as contracts see it.
use Rattle.std.specs.Prelude.{◌≡◌, ◌⊎◌, ℕ, List, [], ◌∷◌, ◌++◌, Option, None, Some, is_some, if◌then◌else◌}
use Rattle.std.specs.Str.{bytes_eq}
use Rattle.smol_edge.specs.Faults.{Rose, RoseByOne}
use Rattle.smol_edge.specs.Calls.{IsNumbered}
use Rattle.smol_edge.specs.Source.{Reading}

-- a file
pub record File : Type 0 where
  pub name : List ℕ
  pub bytes : List ℕ

-- the files, the bytes left of the one that is open, the names asked for so far,
-- the numbers of the calls that are to fail, how many calls were made and have failed,
-- and how often it was refused memory
pub record SourceState : Type 0 where
  pub files : List File
  pub left : List ℕ
  pub asked : List (List ℕ)
  pub fails : List ℕ
  pub calls : ℕ
  pub faults : ℕ
  pub shortages : ℕ

-- the bytes of the first file of that name
abbrev pub contents_of : List File → List ℕ → Option (List ℕ)
contents_of [] name = None
contents_of (file ∷ files) name = if bytes_eq file.name name then Some file.bytes else contents_of files name

-- what it tells of itself
abbrev pub reading_of : SourceState → Reading
reading_of source = record { contents = contents_of source.files; left = source.left; asked = source.asked }

-- the call was counted, and the files and the numbers are as they were
pub record Counts (before after : SourceState) : Type 0 where
  pub files : after.files ≡ before.files
  pub fails : after.fails ≡ before.fails
  pub calls : RoseByOne before.calls after.calls

-- an opening may fail for its number, for a name that no file has, or since memory was refused in it for the names
-- asked for, which then stay
abbrev pub MayFailToOpen : List ℕ → SourceState → SourceState → Type 0
MayFailToOpen name before after =
    IsNumbered before.fails before.calls
    ⊎ ((contents_of before.files name ≡ None)
    ⊎ ((after.asked ≡ before.asked) × Rose before.shortages after.shortages))

-- one more file, unless there is one of this name
abbrev pub files_with : List File → List ℕ → List ℕ → List File
files_with files name bytes =
    if is_some (contents_of files name) then files else files ++ (record { name = name; bytes = bytes }) ∷ []

-- a file was added, and nothing else changed
pub record Adds (name bytes : List ℕ) (before after : SourceState) : Type 0 where
  pub files : after.files ≡ files_with before.files name bytes
  pub left : after.left ≡ before.left
  pub asked : after.asked ≡ before.asked
  pub fails : after.fails ≡ before.fails
  pub calls : after.calls ≡ before.calls
  pub faults : after.faults ≡ before.faults
  pub shortages : after.shortages ≡ before.shortages

-- memory was refused, and nothing else changed
pub record IsRefusedMemory (before after : SourceState) : Type 0 where
  pub files : after.files ≡ before.files
  pub left : after.left ≡ before.left
  pub asked : after.asked ≡ before.asked
  pub fails : after.fails ≡ before.fails
  pub calls : after.calls ≡ before.calls
  pub faults : after.faults ≡ before.faults
  pub shortages : RoseByOne before.shortages after.shortages
