use Rattle.std.proofs.Common.{◌≡◌, ℕ, ◌*◌, ◌<◌, length}
use Rattle.smol_plan.specs.Board.{standing_at}
use Rattle.smol_plan.proofs.BoardLemmas.{given_up_to}
use Rattle.smol_plan.proofs.machine.hold_slice.Given as goal

-- the pairs of the slice that were reached and wait for no other are the worker's
abbrev pub invariant-loop-pair : goal.invariant-loop-pair
invariant-loop-pair l =
    (j : ℕ) → j < length l.plan → standing_at l.standings j ≡ given_up_to l.plan l.worker (64 * l.slice) l.pair j (standing_at l.initial.standings j)
