use Rattle.std.proofs.Common.{length, refl}
use Rattle.std.proofs.lemmas.Result.{err_from_is_err_and}
use Rattle.smol_blocks.specs.declared.statement.Statement.TheVariants as statement
use Rattle.smol_cmd.specs.Cmd.{cmd_in}
use Rattle.smol_cmd.specs.Known.{known}
use Rattle.smol_config.specs.Said.{performs}
use Rattle.smol_config.specs.Reader.{statement_in}
use Rattle.smol_config.proofs.Held.{commands_held, value_read, value_taken}
use Rattle.smol_config.proofs.tables.Tables.read_cmd.Goals as goal

pub returns-in_err-command : goal.returns-in_err-command
unfolding statement_in
returns-in_err-command c =
    let p = err_from_is_err_and c.from_residual.result c.from_residual.ensures.1 in
    value_read statement.Cmd c.args.line.now c.args.self.now c.args.self.now performs (λ looked compartments. cmd_in (known looked.axes looked.species compartments looked.outputs) (length looked.commands) c.args.line.now) (λ before. refl) c.from_residual.result (rw p.1 tt)
    (λ kind is. let fails = c.in_err-command.ensures.refused kind (cc (p.1, p.2, is)) in rw c.len-count.ensures at fails)

pub returns : goal.returns
unfolding statement_in
returns c =
    let fine = c.in_ok-command.ensures.accepted in
    value_taken statement.Cmd c.args.line.now c.args.self.now (record c.args.self.now { commands = c.push.new.self }) performs (λ looked compartments. cmd_in (known looked.axes looked.species compartments looked.outputs) (length looked.commands) c.args.line.now) (λ before. refl) c.in_ok-command.command (rw c.len-count.ensures at fine)
    (λ before h. commands_held c.args.self.now before c.in_ok-command.command c.push.new.self c.in_ok-push.ensures.ok h)
