use Rattle.std.proofs.Common.{Err}
use Rattle.smol_meaning.specs.Run.{step_of}
use Rattle.smol_loop.specs.Parts.{one_step}
use Rattle.smol_loop.proofs.Joining.{all_left, ends_there, goes_on, last_leaves}
use Rattle.smol_loop.proofs.StepsMade.{step_leaves}
use Rattle.smol_loop.proofs.stepping.perform_and_step.Goals as goal

pub returns-in-Ok-Go-clause-left : goal.returns-in-Ok-Go-clause-left
returns-in-Ok-Go-clause-left g c =
    let run = c.args.run.now in
    let draft = run.setup.now in
    let all = all_left (one_step draft run.seed c.args.held.now.state) _ _ in
    last_leaves c.make_step.result (goes_on (step_of draft run.seed) all (rw c.in-Ok-Go.field-0-is at c.in-Ok-Go.ensures.left))
    (step_leaves draft run.seed c.perform_due.new.held.state _ _ _ c.make_step.result c.make_step.ensures.ended c.make_step.ensures.no_output)

pub returns-in-Err-clause-left : goal.returns-in-Err-clause-left
returns-in-Err-clause-left g c =
    let run = c.args.run.now in
    let draft = run.setup.now in
    ends_there (step_of draft run.seed) (Err c.in-Err.fault) (λ is. cc is) (all_left (one_step draft run.seed c.args.held.now.state) _ _) c.in-Err.ensures.left
