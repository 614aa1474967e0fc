use Rattle.smol_claims.specs.Hand.{SitsAt, OnlyLooks}
use Rattle.smol_claims.proofs.claims.Claims.question.Given as goal

abbrev pub invariant-loop : goal.invariant-loop
invariant-loop g l =
    record {
      sits : SitsAt l.seat.table_id l.seat.me l.self;
      looks : OnlyLooks l.initial.seat.me.0 l.seat.me.0;
    }
