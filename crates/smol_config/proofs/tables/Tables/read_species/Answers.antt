use Rattle.smol_config.proofs.Held.{species_reads}
use Rattle.smol_config.proofs.tables.Tables.read_species.Goals as goal

pub returns : goal.returns
returns c =
    species_reads c.args.line.now c.args.self.now c.read.new.species c.read.result c.read.ensures.names c.read.ensures.motions c.read.ensures.accepted c.read.ensures.refused
