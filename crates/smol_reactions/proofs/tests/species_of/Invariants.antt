use Rattle.std.proofs.Common.{◌≤◌, length}
use Rattle.smol_reactions.proofs.tests.species_of.Given as goal

abbrev pub invariant-loop-i : goal.invariant-loop-i
invariant-loop-i l = length l.names ≤ l.i
