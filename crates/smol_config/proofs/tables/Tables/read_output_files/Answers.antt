use Rattle.smol_config.proofs.Held.{outputs_read}
use Rattle.smol_config.proofs.tables.Tables.read_output_files.Goals as goal

pub returns : goal.returns
returns c =
    outputs_read c.args.line.now c.args.self.now c.read_output_files.new.outputs c.read_output_files.result c.read_output_files.ensures.accepted c.read_output_files.ensures.refused
