use Rattle.std.proofs.Common.{◌≡◌, ◌-◌, [], length, vec_capacity}
use Rattle.smol_claims.specs.Hand.{SitsAt, IsInHand, GoesOn}
use Rattle.smol_claims.proofs.claims.Claims.settle_all.Given as goal

-- all that is held is on the stack, and nothing is owed
abbrev pub invariant-loop-pair : goal.invariant-loop-pair
invariant-loop-pair l =
    record {
      sits : SitsAt l.seat.table_id l.seat.me l.self;
      hand : IsInHand l.seat.me.0 l.stack.items;
      owed : l.seat.me.0.owed ≡ [];
      goes_on : GoesOn l.initial.seat.me.0 l.seat.me.0;
      seen : l.seat.me.0.seen ≡ l.initial.seat.me.0.seen;
      room : vec_capacity l.stack ≡ vec_capacity l.initial.stack;
    }

-- how many pairs are not decided by this worker
abbrev pub decreases-loop-pair : goal.decreases-loop-pair
decreases-loop-pair l = length l.self.pairs - length l.seat.me.0.mine
