use Rattle.std.proofs.Common.{◌≤◌, length}
use Rattle.smol_cmd.proofs.tests.names.Given as goal

-- no more names than words so far
abbrev pub invariant-loop-word : goal.invariant-loop-word
invariant-loop-word l = length l.names ≤ l.word-index
