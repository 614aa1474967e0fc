use Rattle.std.proofs.Common.{◌≡◌, ◌+◌, ◌-◌, ◌<◌, arith, ap, ◌∙◌, Err, Ok}
use Rattle.smol_meaning.specs.Run.{steps_from, steps_of}
use Rattle.smol_commands.specs.declared.flow.Flow.TheVariants.{Stop}
use Rattle.smol_loop.proofs.Joining.{ends_there, goes_on, last_leaves}
use Rattle.smol_loop.proofs.StepsMade.{steps_begin, steps_made, steps_rest}
use Rattle.smol_loop.proofs.stepping.make_steps.Goals as goal

pub loop-step-init : goal.loop-step-init
loop-step-init g c = record {
  left = steps_begin c.args.run.now.setup.now c.args.run.now.seed c.args.held.now.state _ _;
  ready = c.requires.ready;
  next = omega arith;
  step = c.requires.first;
}

pub loop-step-preserved : goal.loop-step-preserved
loop-step-preserved g c =
    let run = c.args.run.now in
    let draft = run.setup.now in
    let made = c.loop-step._step in
    let within : made < steps_of draft = omega (arith, c.loop-step-test.true, c.steps_of-last.ensures.count, ap steps_of c.config.ensures.value) in
    let rest = steps_rest draft run.seed made c.loop-step.held.state _ _ _ _ _ within c.loop-step.invariant.left in
    record {
      left = goes_on (steps_from draft run.seed (steps_of draft - (made + 1))) rest (rw c.in-Ok-Go.field-0-is at c.in-Ok-Go.ensures.left);
      ready = c.in-Ok-Go.ensures.ready.next;
      next = omega (arith, c.loop-step.invariant.next, c.in-Ok-Go.ensures.serials);
      step = c.in-Ok-Go.ensures.step (ap (λ flow. Ok flow) c.in-Ok-Go.field-0-is) ∙ ap (λ n. n + 1) c.loop-step.invariant.step;
    }

pub returns-in-Ok-Stop-clause-left : goal.returns-in-Ok-Stop-clause-left
returns-in-Ok-Stop-clause-left g c =
    let run = c.args.run.now in
    let draft = run.setup.now in
    let made = c.loop-step._step in
    let within : made < steps_of draft = omega (arith, c.loop-step-test.true, c.steps_of-last.ensures.count, ap steps_of c.config.ensures.value) in
    let rest = steps_rest draft run.seed made c.loop-step.held.state _ _ _ _ _ within c.loop-step.invariant.left in
    ends_there (steps_from draft run.seed (steps_of draft - (made + 1))) (Ok Stop) (λ is. cc is) rest (rw c.in-Ok-Stop.field-0-is at c.in-Ok-Stop.ensures.left)

pub returns-in-Err-clause-left : goal.returns-in-Err-clause-left
returns-in-Err-clause-left g c =
    let run = c.args.run.now in
    let draft = run.setup.now in
    let made = c.loop-step._step in
    let within : made < steps_of draft = omega (arith, c.loop-step-test.true, c.steps_of-last.ensures.count, ap steps_of c.config.ensures.value) in
    let rest = steps_rest draft run.seed made c.loop-step.held.state _ _ _ _ _ within c.loop-step.invariant.left in
    ends_there (steps_from draft run.seed (steps_of draft - (made + 1))) (Err c.in-Err.fault) (λ is. cc is) rest c.in-Err.ensures.left

pub returns-clause-left : goal.returns-clause-left
returns-clause-left g c =
    let run = c.args.run.now in
    let draft = run.setup.now in
    let made = c.loop-step._step in
    let all : steps_of draft ≡ made =
    omega (arith, c.loop-step-test.false, c.loop-step.auto._step-end, c.steps_of-last.ensures.count, ap steps_of c.config.ensures.value) in
    let last : c.loop-step.held.state.step ≡ c.steps_of-last.result =
    omega (arith, c.loop-step-test.false, c.loop-step.auto._step-end, c.loop-step.invariant.step) in
    last_leaves c.perform_due.result (steps_made draft run.seed made c.steps_of-last.result c.loop-step.held.state _ _ _ _ _ all last c.loop-step.invariant.left)
    c.perform_due.ensures.left
