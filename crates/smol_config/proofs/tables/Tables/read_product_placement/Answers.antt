use Rattle.std.proofs.Common.{refl, subst}
use Rattle.smol_reactions.specs.Statements.{product_placement_said}
use Rattle.smol_reactions.specs.Table.{Reads}
use Rattle.smol_config.specs.Axes.{dims_of}
use Rattle.smol_config.specs.Looked.{Looked}
use Rattle.smol_config.specs.Species.{species_of}
use Rattle.smol_blocks.specs.declared.statement.Statement.TheVariants as statement
use Rattle.smol_config.specs.Reader.{statement_in}
use Rattle.smol_config.proofs.Held.{reactions_read}
use Rattle.smol_config.proofs.tables.Tables.read_product_placement.Goals as goal

pub returns : goal.returns
unfolding statement_in
returns c =
    reactions_read statement.ProductPlacement c.args.line.now c.args.self.now c.read_product_placement.new.self c.read_product_placement.result
    (λ before said. product_placement_said (dims_of before) (species_of before) said c.args.line.now)
    (λ before. refl)
    (λ before h.
    subst (λ (known : Looked). Reads (λ said. product_placement_said known.axes.dims known.species said c.args.line.now) c.args.self.now.reactions c.read_product_placement.new.self c.read_product_placement.result) h.plain c.read_product_placement.ensures.reads)
    c.read_product_placement.ensures.kept
