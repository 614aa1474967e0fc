use Rattle.std.proofs.Common.{refl}
use Rattle.smol_reactions.specs.Statements.{reaction_probability_said}
use Rattle.smol_blocks.specs.declared.statement.Statement.TheVariants as statement
use Rattle.smol_config.specs.Reader.{statement_in}
use Rattle.smol_config.proofs.Held.{reactions_read}
use Rattle.smol_config.proofs.tables.Tables.read_reaction_probability.Goals as goal

pub returns : goal.returns
unfolding statement_in
returns c =
    reactions_read statement.ReactionProbability c.args.line.now c.args.self.now c.read_reaction_probability.new.self c.read_reaction_probability.result
    (λ before said. reaction_probability_said said c.args.line.now)
    (λ before. refl)
    (λ before h. c.read_reaction_probability.ensures.reads)
    c.read_reaction_probability.ensures.kept
