use Rattle.std.proofs.Common.{◌≡◌, map, drop}
use Rattle.smol_edge.specs.MemSource.{contents_of}
use Rattle.smol_edge.specs.MemFile.{file_of}
use Rattle.smol_edge.proofs.mem_files.find_file.Given as goal

abbrev pub invariant-loop-place : goal.invariant-loop-place
invariant-loop-place l = contents_of (map file_of (drop l.place l.files)) l.name ≡ contents_of (map file_of l.files) l.name
