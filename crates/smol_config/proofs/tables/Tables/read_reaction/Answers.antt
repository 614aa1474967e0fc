use Rattle.std.proofs.Common.{refl, subst}
use Rattle.smol_reactions.specs.Statements.{reaction_said}
use Rattle.smol_reactions.specs.Table.{Reads}
use Rattle.smol_config.specs.Looked.{Looked}
use Rattle.smol_config.specs.Species.{species_of}
use Rattle.smol_blocks.specs.declared.statement.Statement.TheVariants as statement
use Rattle.smol_config.specs.Reader.{statement_in}
use Rattle.smol_config.proofs.Held.{reactions_read}
use Rattle.smol_config.proofs.tables.Tables.read_reaction.Goals as goal

pub returns : goal.returns
unfolding statement_in
returns c =
    reactions_read statement.Reaction c.args.line.now c.args.self.now c.read_reaction.new.self c.read_reaction.result
    (λ before said. reaction_said (species_of before) said c.args.line.now)
    (λ before. refl)
    (λ before h. subst (λ (known : Looked). Reads (λ said. reaction_said known.species said c.args.line.now) c.args.self.now.reactions c.read_reaction.new.self c.read_reaction.result) h.plain c.read_reaction.ensures.reads)
    c.read_reaction.ensures.kept
