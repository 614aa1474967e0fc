use Rattle.smol_meaning.proofs.Courses.{run_is_kept}
use Rattle.smol_meaning.proofs.law.each_state_fits.Goals as goal

pub returns : goal.returns
returns c = λ draft seed run sound ran. (run_is_kept draft seed run sound ran).0
