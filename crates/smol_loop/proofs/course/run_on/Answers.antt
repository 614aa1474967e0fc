use Rattle.std.proofs.Common.{Err}
use Rattle.smol_types.specs.declared.command.Phase.TheVariants as phase
use Rattle.smol_meaning.specs.Run.{phase_of}
use Rattle.smol_loop.proofs.Joining.{ends_there, goes_on, last_leaves}
use Rattle.smol_loop.proofs.Whole.{course_left, resumed_fails, resumed_goes_on}
use Rattle.smol_loop.proofs.course.run_on.Goals as goal

pub returns-in-Ok-clause-left : goal.returns-in-Ok-clause-left
returns-in-Ok-clause-left g c =
    let run = c.args.run.now in
    let draft = run.setup.now in
    let all = course_left draft run.seed c.args.held.now.state _ _ in
    last_leaves c.perform_due.result (goes_on (phase_of draft run.seed phase.After) all (resumed_goes_on c.in-Ok.field-0 c.in-Ok.ensures.left))
    c.perform_due.ensures.left

pub returns-in-Err-clause-left : goal.returns-in-Err-clause-left
returns-in-Err-clause-left g c =
    let run = c.args.run.now in
    let draft = run.setup.now in
    ends_there (phase_of draft run.seed phase.After) (Err c.in-Err.fault) (λ is. cc is) (course_left draft run.seed c.args.held.now.state _ _)
    (resumed_fails c.in-Err.fault c.in-Err.ensures.left)
