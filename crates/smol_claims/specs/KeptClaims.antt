-- How the words of a matching are kept.
use Rattle.std.specs.Prelude.{◌≡◌, ◌<◌, ◌≤◌, ◌^◌, length, vec_len}
use Rattle.smol_plan.specs.Pair.{IsOrdered}
use Rattle.smol_claims.specs.declared.claims.Claims.TheInside.{Inside}
use Rattle.smol_claims.specs.Layout.{claim_word_count}
use Rattle.smol_claims.specs.Task.{Task}

abbrev pub task_of : Inside → Task
task_of claims =
    record { pairs = claims.terms.plan; workers = claims.terms.workers; table = claims.table.shared.table_id }

-- the table is that of the plan, whose pairs are ordered, with room for every word; there is a place for each answer,
-- and at least one worker
pub record AreKept (claims : Inside) : Type 0 where
  pub ordered : IsOrdered claims.terms.plan
  pub key : claims.table.shared.key ≡ claims.terms
  pub words : claims.table.shared.table_id.words ≡ claim_word_count claims.terms.plan
  pub slots : claims.table.shared.table_id.slots ≡ 0
  pub room : claim_word_count claims.terms.plan < 2 ^ 64
  pub answer : vec_len claims.answer ≡ length claims.terms.plan
  pub some : 1 ≤ claims.terms.workers
