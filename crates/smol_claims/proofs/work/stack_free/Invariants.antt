use Rattle.std.proofs.Common.{◌≡◌, ℕ, ◌+◌, ◌*◌, ◌≤◌, length, vec_capacity}
use Rattle.smol_claims.specs.View.{has, times, free_below}
use Rattle.smol_claims.proofs.work.stack_free.Given as goal

-- the pairs of the slice that were reached and have no link are on the stack, each once
abbrev pub invariant-loop-pair : goal.invariant-loop-pair
invariant-loop-pair l =
    record {
      free : (j : ℕ) → has l.stack.items j ≡ has (free_below l.plan l.slice l.pair) j;
      once : (j : ℕ) → times l.stack.items j ≤ 1;
      few : length l.stack.items + 64 * l.slice ≤ l.pair;
      room : vec_capacity l.stack ≡ vec_capacity l.initial.stack;
    }
