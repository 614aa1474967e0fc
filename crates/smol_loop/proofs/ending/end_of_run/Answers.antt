use Rattle.smol_loop.proofs.Endings.{counts_alike}
use Rattle.smol_loop.proofs.ending.end_of_run.Goals as goal

pub returns-in_ok-counts_in-in-Ok-clause-alike : goal.returns-in_ok-counts_in-in-Ok-clause-alike
returns-in_ok-counts_in-in-Ok-clause-alike g c =
    rw c.in_ok-counts_in-in-Ok.ensures (counts_alike c.args.config.now c.in-Ok.last c.outputs.ensures.sound c.in-Ok.ensures.fits)
