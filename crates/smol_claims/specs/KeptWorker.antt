-- How a worker is kept between two calls.
use Rattle.std.specs.Prelude.{◌≡◌, ◌<◌, ◌≤◌, [], length, vec_capacity}
use Rattle.smol_plan.specs.Machine.{slice_count}
use Rattle.smol_claims.specs.declared.worker.Worker.TheInside.{Inside}
use Rattle.smol_claims.specs.Hand.{Hand, IsDone}

abbrev pub hand_of : Inside → Hand
hand_of worker = record { table = worker.seat.table_id; view = worker.seat.me.0 }

-- it holds and owes nothing, and its stack has room for every pair
pub record IsAtRest (worker : Inside) : Type 0 where
  pub share : 0 < worker.seat.me.0.share
  pub slots : worker.seat.me.1 ≡ []
  pub seen : worker.seat.me.0.seen ≤ slice_count worker.seat.me.0.pairs
  pub done : IsDone worker.seat.me.0 worker.stack.items
  pub room : length worker.seat.me.0.pairs ≤ vec_capacity worker.stack
