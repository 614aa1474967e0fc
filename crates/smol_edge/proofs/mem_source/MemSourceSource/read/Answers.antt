use Rattle.std.proofs.Common.{refl, arith}
use Rattle.smol_edge.specs.MemFile.{bytes_at}
use Rattle.smol_edge.proofs.Fronts.{drop-split}
use Rattle.smol_edge.proofs.mem_source.MemSourceSource.read.Goals as goal

-- the bytes that were copied stand before those that are left
pub returns-clause-taken : goal.returns-clause-taken
returns-clause-taken c =
    let left = rw c.deref.ensures.value at c.bytes_left-left.ensures in
    let within = rw left at c.min-count.ensures in
    let copied = rw left at c.copy_from_slice.ensures.after in
    rw (← c.self.view_is)
    (record {
      contents = refl;
      asked = refl;
      left = drop-split (bytes_at c.self.inside.files.items c.self.inside.place) c.copy_from_slice.new.self _ c.self.inside.position c.min-count.result (omega (arith, within)) copied;
    })
