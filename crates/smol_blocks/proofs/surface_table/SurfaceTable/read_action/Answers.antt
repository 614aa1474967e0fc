use Rattle.std.proofs.Common.{sym, ap}
use Rattle.std.proofs.lemmas.Result.{err_from_is_err_and}
use Rattle.smol_line.specs.LookingBack.{say}
use Rattle.smol_blocks.specs.Surface.{acts, surface_line_in}
use Rattle.smol_blocks.proofs.SurfaceHeld.{acts_held}
use Rattle.smol_blocks.proofs.surface_table.SurfaceTable.read_action.Goals as goal

pub returns-in_err-acting-clause-reads : goal.returns-in_err-acting-clause-reads
unfolding surface_line_in
returns-in_err-acting-clause-reads c =
    let p = err_from_is_err_and c.from_residual.result c.from_residual.ensures.1 in
    rw (p.1, p.2) (λ before holds. ap (say acts) (sym c.in_err-acting.ensures.rule))

pub returns-clause-reads : goal.returns-clause-reads
unfolding surface_line_in
returns-clause-reads c before holds =
    (acts c.in_ok-acting.acting, ap (say acts) (sym c.in_ok-acting.ensures.rule), acts_held c.args.self.now before c.in_ok-acting.acting c.set.new.self c.set.ensures.front c.set.ensures.back c.set.ensures.front_new c.set.ensures.back_new holds)
