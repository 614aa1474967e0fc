-- Files in memory.
use Rattle.std.specs.Prelude.{◌≡◌, ℕ, List, [], ◌∷◌, ◌++◌, string_bytes, slice_get}
use Rattle.std.specs.Option.{option_map_or}
use Rattle.smol_edge.specs.declared.mem_file.MemFile.{MemFile}
use Rattle.smol_edge.specs.MemSource.{File}

-- the file, as contracts see it
abbrev pub file_of : MemFile → File
file_of file = record { name = string_bytes file.name; bytes = file.bytes.items }

-- the bytes of the file at that place, if there is one
abbrev pub bytes_at : List MemFile → ℕ → List ℕ
bytes_at files place = option_map_or (λ file. file.bytes.items) (slice_get files place) []

-- the bytes at a place are those at another one, whichever file is added behind these
abbrev pub KeepsPlace : List MemFile → ℕ → ℕ → Type 0
KeepsPlace files place kept = (file : MemFile) → bytes_at (files ++ file ∷ []) kept ≡ bytes_at files place
