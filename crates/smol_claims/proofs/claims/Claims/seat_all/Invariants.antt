use Rattle.std.proofs.Common.{◌≡◌, ◌+◌, [], length, All}
use Rattle.smol_claims.specs.View.{newcomer}
use Rattle.smol_claims.specs.Hand.{IsNewFor}
use Rattle.smol_claims.proofs.claims.Claims.seat_all.Given as goal

-- each worker so far has one part of the share, and the seat has the rest
abbrev pub invariant-loop : goal.invariant-loop
invariant-loop l =
    record {
      table : l.seat.table_id ≡ l.self.table;
      view : l.seat.me.0 ≡ newcomer l.self.pairs l.self.workers l.seat.me.0.share;
      share : l.seat.me.0.share + l.counter ≡ l.self.workers + 1;
      slots : l.seat.me.1 ≡ [];
      as_many : length l.workers.items + 1 ≡ l.counter;
      new : All (IsNewFor l.self) l.workers.items;
    }
