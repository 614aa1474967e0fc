use Rattle.smol_cmd.proofs.OutputNames.{files_are_few}
use Rattle.smol_cmd.proofs.law.output_files_are_few.Goals as goal

pub returns : goal.returns
returns c = files_are_few
