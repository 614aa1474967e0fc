use Rattle.std.proofs.Common.{refl, sym}
use Rattle.std.proofs.lemmas.Result.{err_from_is_err_and}
use Rattle.smol_blocks.specs.declared.statement.Statement.TheVariants as statement
use Rattle.smol_config.specs.Motion.{difc_in}
use Rattle.smol_config.specs.Said.{moves}
use Rattle.smol_config.specs.Reader.{statement_in}
use Rattle.smol_config.proofs.Held.{motions_held, value_refused, value_taken}
use Rattle.smol_config.proofs.tables.Tables.read_difc.Goals as goal

pub returns-in_err-chosen : goal.returns-in_err-chosen
unfolding statement_in
returns-in_err-chosen c =
    let p = err_from_is_err_and c.from_residual.result c.from_residual.ensures.1 in
    rw (p.1, p.2) (value_refused statement.Difc c.args.line.now c.args.self.now c.args.self.now (λ given. moves given.0 given.1) (λ known compartments. difc_in known.species c.args.line.now) (λ before. refl) _ (sym c.in_err-chosen.ensures.rule))

pub returns : goal.returns
unfolding statement_in
returns c =
    value_taken statement.Difc c.args.line.now c.args.self.now (record c.args.self.now { species = c.set_motion.new.self }) (λ given. moves given.0 given.1) (λ known compartments. difc_in known.species c.args.line.now) (λ before. refl) (c.in_ok-chosen.chosen, c.in_ok-chosen.motion) (sym c.in_ok-chosen.ensures.rule)
    (λ before h. motions_held c.args.self.now before c.in_ok-chosen.chosen c.in_ok-chosen.motion c.set_motion.new.self c.set_motion.ensures.names c.set_motion.ensures.motions h)
