use Rattle.std.proofs.Common.{◌≤◌}
use Rattle.smol_claims.specs.Hand.{WorksFor, GoesOn}
use Rattle.smol_claims.specs.KeptWorker.{hand_of, IsAtRest}
use Rattle.smol_claims.proofs.worker.Worker.run.Given as goal

-- between two slices the worker is at rest, and has seen all slices before this one taken
abbrev pub invariant-loop-slice : goal.invariant-loop-slice
invariant-loop-slice g l =
    record {
      works : WorksFor (hand_of l.self-inside) l.claims;
      rest : IsAtRest l.self-inside;
      seen : l.slice ≤ l.self-inside.seat.me.0.seen;
      goes_on : GoesOn l.fn.self.view l.self-inside.seat.me.0;
    }
