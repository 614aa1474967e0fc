use Rattle.smol_meaning.proofs.Courses.{run_confines}
use Rattle.smol_meaning.proofs.law.ways_of_a_run_are_confined.Goals as goal

pub returns : goal.returns
returns c = λ draft seed run sound ran. run_confines draft seed run sound ran
