use Rattle.std.proofs.Common.{◌≡◌, Err, arith, sym, subst, ◌∙◌}
use Rattle.smol_types.specs.declared.state.State.{State}
use Rattle.smol_meaning.specs.Run.{step_of}
use Rattle.smol_meaning.specs.Step.{next_state}
use Rattle.smol_meaning.proofs.Stepping.{next_step}
use Rattle.smol_step.specs.Advance.{IsAnswer}
use Rattle.smol_loop.specs.declared.run_fault.RunFault.{RunFault}
use Rattle.smol_loop.specs.declared.run_fault.RunFault.TheVariants as fault
use Rattle.smol_loop.specs.Parts.{EndsPart}
use Rattle.smol_loop.proofs.ToldFaults.{step_ends, step_writes_nothing}
use Rattle.smol_loop.proofs.stepping.make_step.Goals as goal

pub overflow_add-k : goal.overflow_add-k
overflow_add-k g c =
    let sound = c.requires.sound in
    omega (arith, c.requires.further, sound.steps)

pub returns-in-Ok-clause-step : goal.returns-in-Ok-clause-step
returns-in-Ok-clause-step g c =
    next_step c.args.run.now.setup.now c.args.run.now.seed c.args.state.now c.in-Ok.next (rw c.replace-before.ensures.value at c.in-Ok.ensures.answer)

-- too many molecules are told by the step that makes them
pub returns-in-Err-clause-ended : goal.returns-in-Err-clause-ended
returns-in-Err-clause-ended g c =
    let config = c.args.run.now.setup.now in
    let seed = c.args.run.now.seed in
    let state = c.args.state.now in
    subst (λ (one : RunFault). EndsPart (step_of config seed state) c.replace-before.new.dest (Err one)) (sym c.fault_of_step.ensures)
    (step_ends config seed state c.replace-before.new.dest c.in-Err.fault
    (subst (λ (before : State). IsAnswer (next_state config seed before) (Err c.in-Err.fault)) c.replace-before.ensures.value c.in-Err.ensures.answer))

pub returns-in-Err-clause-no_output : goal.returns-in-Err-clause-no_output
returns-in-Err-clause-no_output g c is =
    let same : c.fault_of_step.result ≡ fault.OutputFault = cc is in
    step_writes_nothing _ c.in-Err.fault (sym c.fault_of_step.ensures ∙ same)
