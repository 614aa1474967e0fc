use Rattle.smol_blocks.specs.SurfaceTable.{known_of}
use Rattle.smol_blocks.proofs.SurfaceHeld.{panel_reads}
use Rattle.smol_blocks.proofs.surface_table.SurfaceTable.read_panel.Goals as goal

pub returns-clause-reads : goal.returns-clause-reads
returns-clause-reads c =
    panel_reads (known_of c.args.dims c.args.species.now c.args.others) c.args.line.now c.args.self.now c.read_panel.new.self c.read_panel.result c.read_panel.ensures.added c.read_panel.ensures.refused
