use Rattle.std.proofs.Common.{◌≡◌, ◌∙◌, sym, true}
use Rattle.std.specs.Prelude.{string_bytes}
use Rattle.std.specs.Str.{bytes_eq}
use Rattle.smol_edge.proofs.Files.{contents_of-found}
use Rattle.smol_edge.proofs.mem_files.find_file.Goals as goal

-- the first of the files left has the name
pub returns-then-eq-clause-found : goal.returns-then-eq-clause-found
returns-then-eq-clause-found c =
    let same : bytes_eq (string_bytes c.index-files-place.result.name) c.args.name.now ≡ true =
    rw (← c.as_str.ensures.value) (sym c.if-eq.ensures) in
    sym c.loop-place.invariant
    ∙ contents_of-found c.args.files.now c.loop-place.place c.args.name.now c.index-files-place.result c.loop-place-test.true c.index-files-place.is same
