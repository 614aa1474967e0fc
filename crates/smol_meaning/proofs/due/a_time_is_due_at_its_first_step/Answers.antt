use Rattle.smol_meaning.proofs.DueTimes.{due_at_time, time_is_due}
use Rattle.smol_meaning.proofs.due.a_time_is_due_at_its_first_step.Goals as goal

pub returns : goal.returns
returns c draft k t sound = (due_at_time draft k t sound, time_is_due draft k t)
