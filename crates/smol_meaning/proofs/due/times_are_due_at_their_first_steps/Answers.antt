use Rattle.smol_meaning.proofs.DueTimes.{due_at_times, times_are_due}
use Rattle.smol_meaning.proofs.due.times_are_due_at_their_first_steps.Goals as goal

pub returns : goal.returns
returns c draft k on off dt sound apart =
    (due_at_times draft k on off dt sound apart, λ first. times_are_due draft k on off dt first.0 apart first.1 first.2)
