use Rattle.std.proofs.Common.{◌≡◌, ◌++◌, drop}
use Rattle.smol_sweep.specs.Table.{run_lines}
use Rattle.smol_sweep.proofs.lines.add_runs.Given as goal

-- what is added so far, and the lines that are left
abbrev pub invariant-loop-number : goal.invariant-loop-number
invariant-loop-number l =
    l.text.items ++ run_lines l.first l.number (drop l.number l.outcomes) ≡ l.initial.text.items ++ run_lines l.first 0 l.outcomes
