use Rattle.std.specs.Prelude.{None}
use Rattle.smol_run.specs.Generated.{generated}
use Rattle.smol_run.specs.Outcome.{outcome_of_text}
use Rattle.smol_run.proofs.Cuts.{goes_cut_off, told_at_once}
use Rattle.smol_run.proofs.program.run_made.Goals as goal

pub returns-in_err-text-clause-ended : goal.returns-in_err-text-clause-ended
returns-in_err-text-clause-ended g c =
    goes_cut_off (outcome_of_text None None (generated c.args.n)) c.from_residual.result _ _ c.from_residual.ensures.0
    (told_at_once (outcome_of_text None None (generated c.args.n)) (g.K.Outlets.told c.args.outlets.now))
