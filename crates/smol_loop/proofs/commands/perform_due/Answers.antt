use Rattle.std.proofs.Common.{◌<◌, ◌≤◌, arith, ap, ◌∙◌, length, Err, Ok}
use Rattle.smol_meaning.specs.Run.{phase_of}
use Rattle.smol_types.specs.declared.draft.Draft.{Draft}
use Rattle.smol_commands.specs.declared.flow.Flow.TheVariants.{Stop}
use Rattle.smol_loop.proofs.Joining.{ends_there, goes_on}
use Rattle.smol_loop.proofs.Phases.{after_command, phase_done, phase_rest}
use Rattle.smol_loop.proofs.commands.perform_due.Goals as goal

pub loop-c-preserved : goal.loop-c-preserved
loop-c-preserved g c =
    let run = c.args.run.now in
    let draft = run.setup.now in
    let within : c.loop-c.c < length draft.commands = omega (arith, c.loop-c-test.true, ap length c.commands-commands.ensures.value, ap (λ (d : Draft). length d.commands) c.config.ensures.value) in
    let rest = phase_rest draft run.seed c.args.phase c.loop-c.c c.loop-c.held.state _ _ _ _ _ within c.loop-c.invariant.left in
    record {
      left = goes_on (after_command draft run.seed c.args.phase c.loop-c.c) rest (rw c.in-Ok-Go.field-0-is at c.in-Ok-Go.ensures.left);
      ready = c.in-Ok-Go.ensures.ready.next;
      next = omega (arith, c.loop-c.invariant.next, c.in-Ok-Go.ensures.serials);
      step = c.in-Ok-Go.ensures.step ∙ c.loop-c.invariant.step;
    }

pub returns-in-Ok-Stop-clause-left : goal.returns-in-Ok-Stop-clause-left
unfolding phase_of
returns-in-Ok-Stop-clause-left g c =
    let run = c.args.run.now in
    let draft = run.setup.now in
    let within : c.loop-c.c < length draft.commands = omega (arith, c.loop-c-test.true, ap length c.commands-commands.ensures.value, ap (λ (d : Draft). length d.commands) c.config.ensures.value) in
    let rest = phase_rest draft run.seed c.args.phase c.loop-c.c c.loop-c.held.state _ _ _ _ _ within c.loop-c.invariant.left in
    ends_there (after_command draft run.seed c.args.phase c.loop-c.c) (Ok Stop) (λ is. cc is) rest (rw c.in-Ok-Stop.field-0-is at c.in-Ok-Stop.ensures.left)

pub returns-in-Err-clause-left : goal.returns-in-Err-clause-left
unfolding phase_of
returns-in-Err-clause-left g c =
    let run = c.args.run.now in
    let draft = run.setup.now in
    let within : c.loop-c.c < length draft.commands = omega (arith, c.loop-c-test.true, ap length c.commands-commands.ensures.value, ap (λ (d : Draft). length d.commands) c.config.ensures.value) in
    let rest = phase_rest draft run.seed c.args.phase c.loop-c.c c.loop-c.held.state _ _ _ _ _ within c.loop-c.invariant.left in
    ends_there (after_command draft run.seed c.args.phase c.loop-c.c) (Err c.in-Err.fault) (λ is. cc is) rest c.in-Err.ensures.left

pub returns-clause-left : goal.returns-clause-left
unfolding phase_of
returns-clause-left g c =
    let run = c.args.run.now in
    let draft = run.setup.now in
    let past : length draft.commands ≤ c.loop-c.c = omega (arith, c.loop-c-test.false, ap length c.commands-commands.ensures.value, ap (λ (d : Draft). length d.commands) c.config.ensures.value) in
    phase_done draft run.seed c.args.phase c.loop-c.c c.loop-c.held.state _ _ _ _ _ past c.loop-c.invariant.left
