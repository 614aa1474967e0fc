use Rattle.std.proofs.Common.{refl}
use Rattle.smol_reactions.specs.Statements.{binding_radius_said}
use Rattle.smol_blocks.specs.declared.statement.Statement.TheVariants as statement
use Rattle.smol_config.specs.Reader.{statement_in}
use Rattle.smol_config.proofs.Held.{reactions_read}
use Rattle.smol_config.proofs.tables.Tables.read_binding_radius.Goals as goal

pub returns : goal.returns
unfolding statement_in
returns c =
    reactions_read statement.BindingRadius c.args.line.now c.args.self.now c.read_binding_radius.new.self c.read_binding_radius.result
    (λ before said. binding_radius_said said c.args.line.now)
    (λ before. refl)
    (λ before h. c.read_binding_radius.ensures.reads)
    c.read_binding_radius.ensures.kept
