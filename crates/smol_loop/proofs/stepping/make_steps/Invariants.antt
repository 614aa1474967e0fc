use Rattle.std.proofs.Common.{◌≡◌, ◌+◌, ◌-◌, ◌*◌, ◌≤◌}
use Rattle.smol_meaning.specs.Run.{steps_from, steps_of}
use Rattle.smol_loop.specs.Parts.{IsReady}
use Rattle.smol_loop.proofs.Joining.{Left}
use Rattle.smol_loop.proofs.stepping.make_steps.Given as goal

-- the steps behind those made are left
abbrev pub invariant-loop-step : goal.invariant-loop-step
invariant-loop-step g l =
    let draft = l.run.setup.now in
    let seed = l.run.seed in
    let first = l.initial.held.state in
    record {
      left : Left (steps_from draft seed (steps_of draft - l._step) l.held.state) (steps_from draft seed (steps_of draft) first)
          (g.W.Readers.told l.initial.readers) (g.W.Readers.told l.readers) (g.W.Readers.faults l.initial.readers) (g.W.Readers.faults l.readers);
      ready : IsReady draft seed (g.W.Readers.opened l.readers) l.held;
      next : l.held.state.next ≤ first.next + 272000000 * l._step;
      step : l.held.state.step ≡ l._step;
    }
