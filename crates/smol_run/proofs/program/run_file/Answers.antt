use Rattle.smol_edge.specs.Source.{Reading}
use Rattle.smol_macro.specs.Including.{expanded}
use Rattle.smol_run.specs.Outcome.{outcome_of_files}
use Rattle.smol_run.proofs.Files.{nothing_yet_by}
use Rattle.smol_run.proofs.program.run_file.Goals as goal

pub returns-in_err-refusal-in-Err-clause-ended : goal.returns-in_err-refusal-in-Err-clause-ended
returns-in_err-refusal-in-Err-clause-ended g c =
    nothing_yet_by (λ (reading : Reading). outcome_of_files c.args.given.seed c.args.given.runs (expanded reading.contents c.args.name.now)) c.from_residual-in_err-refusal-in-Err.result
    (g.S.Source.told c.args.source.now) (g.K.Outlets.told c.args.outlets.now) c.from_residual-in_err-refusal-in-Err.ensures.0
