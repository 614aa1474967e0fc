use Rattle.std.proofs.Common.{refl, sym}
use Rattle.std.proofs.lemmas.Result.{err_from_is_err_and}
use Rattle.smol_blocks.specs.declared.statement.Statement.TheVariants as statement
use Rattle.smol_config.specs.Mol.{mol_in}
use Rattle.smol_config.specs.Said.{places}
use Rattle.smol_config.specs.Reader.{statement_in}
use Rattle.smol_config.proofs.Held.{placings_held, value_refused, value_taken}
use Rattle.smol_config.proofs.tables.Tables.read_mol.Goals as goal

pub returns-in_err-placing : goal.returns-in_err-placing
unfolding statement_in
returns-in_err-placing c =
    let p = err_from_is_err_and c.from_residual.result c.from_residual.ensures.1 in
    rw (p.1, p.2) (value_refused statement.Mol c.args.line.now c.args.self.now c.args.self.now places (λ known compartments. mol_in known.axes known.species c.args.line.now) (λ before. refl) _ (sym c.in_err-placing.ensures))

pub returns : goal.returns
unfolding statement_in
returns c =
    value_taken statement.Mol c.args.line.now c.args.self.now (record c.args.self.now { placings = c.push.new.self }) places (λ known compartments. mol_in known.axes known.species c.args.line.now) (λ before. refl) c.in_ok-placing.placing (sym c.in_ok-placing.ensures)
    (λ before h. placings_held c.args.self.now before c.in_ok-placing.placing c.push.new.self c.in_ok-push.ensures.ok h)
