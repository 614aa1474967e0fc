use Rattle.std.proofs.Common.{◌≡◌, map, take}
use Rattle.smol_types.specs.declared.state.Mol.{Mol}
use Rattle.smol_stats.proofs.around.places_of.Given as goal

-- the places of the molecules so far
abbrev pub invariant-loop-mol : goal.invariant-loop-mol
invariant-loop-mol l = record {
  placed : l.places.items ≡ map (λ (mol : Mol). mol.place) (take l.mol-index l.mols);
}
