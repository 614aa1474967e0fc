use Rattle.std.proofs.Common.{◌≡◌, ◌++◌, take, flat_map}
use Rattle.smol_meaning.specs.Lines.{mol_line}
use Rattle.smol_commands.proofs.printing.add_mols.Given as goal

-- the lines of the molecules so far
abbrev pub invariant-loop-mol : goal.invariant-loop-mol
invariant-loop-mol l = l.page.items ≡ l.initial.page.items ++ flat_map (mol_line l.config) (take l.mol-index l.mols)
