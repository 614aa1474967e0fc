use Rattle.std.proofs.Common.{◌≡◌, ap, sym, subst, Err}
use Rattle.smol_meaning.specs.Stretch.{Over}
use Rattle.smol_commands.specs.declared.command_fault.CommandFault.TheVariants as command
use Rattle.smol_commands.specs.Performs.{performed_at}
use Rattle.smol_commands.proofs.Effects.{performed_at_prints}
use Rattle.smol_loop.specs.declared.run_fault.RunFault.{RunFault}
use Rattle.smol_loop.specs.Parts.{Leaves}
use Rattle.smol_loop.proofs.Lone.{command_cut, command_written}
use Rattle.smol_loop.proofs.Phases.{step_stays}
use Rattle.smol_loop.proofs.ToldFaults.{command_fails}
use Rattle.smol_loop.proofs.commands.perform_command.Goals as goal

pub returns-in-Ok-take-clause-left : goal.returns-in-Ok-take-clause-left
returns-in-Ok-take-clause-left g c =
    let run = c.args.run.now in
    let ready = c.requires.ready in
    let performed = rw (c.config-config.ensures.value, ready.words) at c.in-Ok.ensures.performed in
    record {
      ended = (performed.state, performed.ending);
      given = command_written _ (performed_at run.setup.now run.seed c.args.c c.args.held.now.state) _ _ _ _
          (performed_at_prints run.setup.now run.seed c.args.c c.args.held.now.state ready.sound)
          ready.blank performed.pages c.in-Ok-take.ensures.appended;
      faults = c.in-Ok-take.ensures.no_fault;
    }

pub returns-in-Ok-take-clause-step : goal.returns-in-Ok-take-clause-step
returns-in-Ok-take-clause-step g c =
    let run = c.args.run.now in
    let ready = c.requires.ready in
    let performed = rw (c.config-config.ensures.value, ready.words) at c.in-Ok.ensures.performed in
    step_stays run.setup.now run.seed c.args.c c.args.held.now.state _ ready.sound ready.fits c.requires.room performed.state

pub returns-in-Err-take-clause-left : goal.returns-in-Err-take-clause-left
returns-in-Err-take-clause-left g c =
    let run = c.args.run.now in
    let ready = c.requires.ready in
    let performed = rw (c.config-config.ensures.value, ready.words) at c.in-Ok.ensures.performed in
    record {
      ended = tt;
      given = command_cut _ (performed_at run.setup.now run.seed c.args.c c.args.held.now.state) _ _ _ _
          (performed_at_prints run.setup.now run.seed c.args.c c.args.held.now.state ready.sound)
          ready.blank performed.pages c.in-Err-take.ensures.front_appended;
      faults = c.in-Err-take.ensures.cause;
    }

-- too many molecules are told by the step of the state as it was
pub returns-in-Err-clause-left : goal.returns-in-Err-clause-left
returns-in-Err-clause-left g c =
    let run = c.args.run.now in
    let state = c.args.held.now.state in
    let ready = c.requires.ready in
    let part = performed_at run.setup.now run.seed c.args.c state in
    let prints = performed_at_prints run.setup.now run.seed c.args.c state ready.sound in
    let too_many = rw (c.config-config.ensures.value, ready.words) at c.in-Err.ensures.too_many in
    let over : c.in-Err.fault ≡ command.TooManyMolecules → part.ending ≡ Over state.step = λ is. too_many (ap (λ fault. Err fault) is) in
    let told = g.W.Readers.told c.args.readers.now in
    let count = g.W.Readers.faults c.args.readers.now in
    subst (λ (one : RunFault). Leaves part (Err one) c.perform.new.state told told count count) (sym c.fault_of_command.ensures)
    (command_fails part c.perform.new.state state.step told count c.in-Err.fault over (λ is. prints.over _ (over is)))
