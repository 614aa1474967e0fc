use Rattle.std.proofs.Common.{Err}
use Rattle.smol_meaning.specs.Run.{steps_from, steps_of}
use Rattle.smol_loop.specs.Parts.{up_to_end}
use Rattle.smol_loop.proofs.Joining.{all_left, ends_there, goes_on, last_leaves}
use Rattle.smol_loop.proofs.course.begin_and_step.Goals as goal

pub returns-in-Ok-Go-clause-left : goal.returns-in-Ok-Go-clause-left
returns-in-Ok-Go-clause-left g c =
    let run = c.args.run.now in
    let draft = run.setup.now in
    let all = all_left (up_to_end draft run.seed c.args.held.now.state) _ _ in
    last_leaves c.make_steps.result (goes_on (steps_from draft run.seed (steps_of draft)) all (rw c.in-Ok-Go.field-0-is at c.in-Ok-Go.ensures.left))
    c.make_steps.ensures.left

pub returns-in-Err-clause-left : goal.returns-in-Err-clause-left
returns-in-Err-clause-left g c =
    let run = c.args.run.now in
    let draft = run.setup.now in
    ends_there (steps_from draft run.seed (steps_of draft)) (Err c.in-Err.fault) (λ is. cc is) (all_left (up_to_end draft run.seed c.args.held.now.state) _ _)
    c.in-Err.ensures.left
