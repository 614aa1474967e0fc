use Rattle.smol_run.specs.Outcome.{outcome_of_text}
use Rattle.smol_run.proofs.Cuts.{goes_cut_off, told_at_once}
use Rattle.smol_run.proofs.program.run_text.Goals as goal

pub returns-in_err-refusal-in-Err-clause-ended : goal.returns-in_err-refusal-in-Err-clause-ended
returns-in_err-refusal-in-Err-clause-ended g c =
    goes_cut_off (outcome_of_text c.args.given.seed c.args.given.runs c.args.bytes.now) c.from_residual.result _ _ c.from_residual.ensures.0
    (told_at_once (outcome_of_text c.args.given.seed c.args.given.runs c.args.bytes.now) (g.K.Outlets.told c.args.outlets.now))
