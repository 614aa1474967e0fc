use Rattle.std.proofs.Common.{◌≡◌, ◌+◌, [], length, All, sum_by}
use Rattle.smol_plan.specs.Machine.{slice_count}
use Rattle.smol_claims.specs.Hand.{SitsAt, WorksFor}
use Rattle.smol_claims.proofs.claims.Claims.join_all.Given as goal

-- the seat and the workers that are left have the whole share
abbrev pub invariant-loop-worker : goal.invariant-loop-worker
invariant-loop-worker l =
    record {
      sits : SitsAt l.seat.table_id l.seat.me l.self;
      held : l.seat.me.0.held ≡ [];
      owed : l.seat.me.0.owed ≡ [];
      seen : l.seat.me.0.seen ≡ slice_count l.self.pairs;
      share : l.seat.me.0.share + sum_by (λ worker. worker.view.share) l.workers.items ≡ l.self.workers;
      work : All (λ worker. WorksFor worker l.self) l.workers.items;
      all_seen : All (λ worker. worker.view.seen ≡ slice_count l.self.pairs) l.workers.items;
    }

abbrev pub decreases-loop-worker : goal.decreases-loop-worker
decreases-loop-worker l = length l.workers.items
