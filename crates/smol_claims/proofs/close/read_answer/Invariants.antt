use Rattle.std.proofs.Common.{◌≡◌, ℕ, ◌<◌, false, length, get_or}
use Rattle.smol_plan.specs.Matching.{fires}
use Rattle.smol_claims.proofs.close.read_answer.Given as goal

abbrev pub invariant-loop-pair : goal.invariant-loop-pair
invariant-loop-pair l =
    record {
      as_many : length l.answer.items ≡ length l.plan;
      fired : (j : ℕ) → j < l.pair → get_or l.answer.items j false ≡ fires l.plan j;
    }
