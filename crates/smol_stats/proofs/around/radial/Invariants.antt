use Rattle.std.proofs.Common.{◌≡◌, ◌<◌, ◌+◌, ◌*◌, ℕ, count_by, drop, get_or, length}
use Rattle.smol_types.specs.declared.state.Mol.{Mol}
use Rattle.smol_stats.specs.Radial.{are_in_shell, pairs_of}
use Rattle.smol_stats.proofs.around.radial.Given as goal

-- the counts so far, with the pairs from the molecule on, come to those of all pairs
abbrev pub invariant-loop-i : goal.invariant-loop-i
invariant-loop-i l = record {
  long : length l.counts.items ≡ l.n;
  total : (k : ℕ) → k < l.n → get_or l.counts.items k 0 + count_by (λ (pair : Mol × Mol). are_in_shell l.first l.second (2 * l.radius) l.n k pair.0 pair.1) (pairs_of (drop l.i l.sorted.mols.items))
      ≡ count_by (λ (pair : Mol × Mol). are_in_shell l.first l.second (2 * l.radius) l.n k pair.0 pair.1) (pairs_of l.sorted.mols.items);
}
