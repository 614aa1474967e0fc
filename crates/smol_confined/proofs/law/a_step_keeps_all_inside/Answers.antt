use Rattle.smol_confined.proofs.Filling.{step_keeps_all}
use Rattle.smol_confined.proofs.law.a_step_keeps_all_inside.Goals as goal

pub returns : goal.returns
returns c = step_keeps_all
