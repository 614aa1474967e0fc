use Rattle.smol_confined.proofs.Filling.{events_of_run_are_confined}
use Rattle.smol_confined.proofs.law.events_of_a_run_stay_inside.Goals as goal

pub returns : goal.returns
returns c = events_of_run_are_confined
