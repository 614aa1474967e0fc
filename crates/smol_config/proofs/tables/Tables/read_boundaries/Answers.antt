use Rattle.std.proofs.Common.{refl, sym}
use Rattle.std.proofs.lemmas.Result.{err_from_is_err_and}
use Rattle.smol_blocks.specs.declared.statement.Statement.TheVariants as statement
use Rattle.smol_config.specs.Boundaries.{boundaries_in}
use Rattle.smol_config.specs.Said.{walls}
use Rattle.smol_config.specs.Reader.{statement_in}
use Rattle.smol_config.proofs.Held.{value_refused, value_taken, walls_held}
use Rattle.smol_config.proofs.tables.Tables.read_boundaries.Goals as goal

pub returns-in_err-axis : goal.returns-in_err-axis
unfolding statement_in
returns-in_err-axis c =
    let p = err_from_is_err_and c.from_residual.result c.from_residual.ensures.1 in
    rw (p.1, p.2) (value_refused statement.Boundaries c.args.line.now c.args.self.now c.args.self.now (λ given. walls given.0 given.1) (λ known compartments. boundaries_in known.axes c.args.line.now) (λ before. refl) _ (sym c.in_err-axis.ensures.rule))

pub returns : goal.returns
unfolding statement_in
returns c =
    value_taken statement.Boundaries c.args.line.now c.args.self.now (record c.args.self.now { axes = c.set_bounds.new.axes }) (λ given. walls given.0 given.1) (λ known compartments. boundaries_in known.axes c.args.line.now) (λ before. refl) (c.in_ok-axis.axis, c.in_ok-axis.given) (sym c.in_ok-axis.ensures.rule)
    (λ before h. walls_held c.args.self.now before c.in_ok-axis.axis c.in_ok-axis.given c.set_bounds.new.axes c.in_ok-axis.ensures.within c.set_bounds.ensures h)
