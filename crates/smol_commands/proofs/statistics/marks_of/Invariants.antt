use Rattle.std.proofs.Common.{◌≡◌}
use Rattle.smol_meaning.specs.Statistics.{marks_of}
use Rattle.smol_commands.proofs.statistics.marks_of.Given as goal

-- the marks of the species so far
abbrev pub invariant-loop-number : goal.invariant-loop-number
invariant-loop-number l = l.marks.items ≡ marks_of l.number l.who
