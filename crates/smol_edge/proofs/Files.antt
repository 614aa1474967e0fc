-- Finding a file by its name.
use Rattle.std.proofs.Common.{◌≡◌, ℕ, ◌<◌, List, length, map, drop, Some, true, refl, sym, get_or, drop-cons}
use Rattle.std.specs.Prelude.{string_bytes, slice_get}
use Rattle.std.specs.Str.{bytes_eq}
use Rattle.std.proofs.lemmas.Option.{slice_get_read}
use Rattle.smol_edge.specs.declared.mem_file.MemFile.{MemFile}
use Rattle.smol_edge.specs.MemSource.{contents_of}
use Rattle.smol_edge.specs.MemFile.{file_of, bytes_at}

-- the first of the files left has the name: the contents are its bytes
pub contents_of-found : (files : List MemFile) (place : ℕ) (name : List ℕ) (file : MemFile) → place < length files → file ≡ get_or files place file → bytes_eq (string_bytes file.name) name ≡ true → contents_of (map file_of (drop place files)) name ≡ Some (bytes_at files place)
contents_of-found files place name file within is same =
    let here : get_or files place file ≡ file = sym is in
    let read : slice_get files place ≡ Some file = slice_get_read files (length files) place file refl within is in
    rw (drop-cons files place file, here, read, same) refl
