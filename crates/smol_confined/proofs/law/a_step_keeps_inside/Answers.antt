use Rattle.smol_confined.proofs.Safe.{step_is_confined}
use Rattle.smol_confined.proofs.law.a_step_keeps_inside.Goals as goal

pub returns : goal.returns
returns c = step_is_confined
