use Rattle.std.proofs.Common.{◌≡◌, ◌+◌, ◌*◌, ◌≤◌, drop}
use Rattle.smol_meaning.specs.Run.{commands_from}
use Rattle.smol_loop.specs.Parts.{IsReady}
use Rattle.smol_loop.proofs.Joining.{Left}
use Rattle.smol_loop.proofs.commands.perform_due.Given as goal

-- the commands from this one on are left
abbrev pub invariant-loop-c : goal.invariant-loop-c
invariant-loop-c g l =
    let draft = l.run.setup.now in
    let seed = l.run.seed in
    let first = l.initial.held.state in
    record {
      left : Left (commands_from draft seed l.phase l.c (drop l.c draft.commands) l.held.state) (commands_from draft seed l.phase 0 draft.commands first)
          (g.W.Readers.told l.initial.readers) (g.W.Readers.told l.readers) (g.W.Readers.faults l.initial.readers) (g.W.Readers.faults l.readers);
      ready : IsReady draft seed (g.W.Readers.opened l.readers) l.held;
      next : l.held.state.next ≤ first.next + 1000000 * l.c;
      step : l.held.state.step ≡ first.step;
    }
