use Rattle.smol_reactions.specs.Table.{IsKept}
use Rattle.smol_reactions.proofs.tests.read_lines.Given as goal

abbrev pub invariant-loop-i : goal.invariant-loop-i
invariant-loop-i l = IsKept l.table
