use Rattle.smol_confined.proofs.Linked.{run_is_confined}
use Rattle.smol_confined.proofs.law.a_run_keeps_inside.Goals as goal

pub returns : goal.returns
returns c = run_is_confined
