use Rattle.std.proofs.Common.{◌≡◌, ◌++◌}
use Rattle.smol_meaning.specs.Commands.{molecules_at}
use Rattle.smol_commands.proofs.moves.add_at.Given as goal

-- the molecules so far are added
abbrev pub invariant-loop-i : goal.invariant-loop-i
invariant-loop-i l = l.mols.items ≡ l.initial.mols.items ++ molecules_at l.first l.species l.place l.i
