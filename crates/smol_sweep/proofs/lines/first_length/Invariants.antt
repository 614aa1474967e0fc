use Rattle.std.proofs.Common.{◌≡◌, drop}
use Rattle.smol_sweep.specs.Table.{ended_in}
use Rattle.smol_sweep.proofs.lines.first_length.Given as goal

-- no run so far came to its end
abbrev pub invariant-loop-outcome : goal.invariant-loop-outcome
invariant-loop-outcome l = ended_in (drop l.outcome-index l.outcomes) ≡ ended_in l.outcomes
