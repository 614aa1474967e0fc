use Rattle.std.proofs.Common.{◌≡◌, map, take}
use Rattle.smol_stats.specs.Radial.{mol_at}
use Rattle.smol_stats.proofs.around.mols_in.Given as goal

-- the molecules at the indexes so far
abbrev pub invariant-loop-index : goal.invariant-loop-index
invariant-loop-index l = record {
  found : l.found.items ≡ map (mol_at l.mols) (take l.index-index l.order);
}
