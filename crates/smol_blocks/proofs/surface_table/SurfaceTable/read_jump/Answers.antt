use Rattle.std.proofs.Common.{Ok, Err}
use Rattle.std.proofs.lemmas.Result.{err_from_is_err_and}
use Rattle.smol_blocks.specs.SurfaceTable.{known_of}
use Rattle.smol_blocks.proofs.SurfaceHeld.{jump_reads}
use Rattle.smol_blocks.proofs.surface_table.SurfaceTable.read_jump.Goals as goal

pub returns-in_err-read_jump-clause-reads : goal.returns-in_err-read_jump-clause-reads
returns-in_err-read_jump-clause-reads c =
    let p = err_from_is_err_and c.from_residual.result c.from_residual.ensures.1 in
    rw (p.1, p.2)
    (λ before holds. jump_reads (known_of c.args.dims c.args.species.now c.args.others) c.args.line.now c.args.self.now c.read_jump.new.self (Err c.in_err-read_jump.field-0.0) tt c.in_err-read_jump.ensures.refused before holds)

pub returns-clause-reads : goal.returns-clause-reads
returns-clause-reads c before holds =
    jump_reads (known_of c.args.dims c.args.species.now c.args.others) c.args.line.now c.args.self.now c.read_jump.new.self (Ok c.in_ok-read_jump.field-0) c.in_ok-read_jump.ensures.set c.in_ok-read_jump.ensures.refused before holds
