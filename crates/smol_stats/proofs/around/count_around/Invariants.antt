use Rattle.std.proofs.Common.{◌≡◌, ◌<◌, ◌+◌, ℕ, All, count_by, drop, get_or, length}
use Rattle.smol_cells.specs.NearLeft.{near_left}
use Rattle.smol_stats.specs.Radial.{are_in_shell, is_behind_in, mol_at}
use Rattle.smol_stats.proofs.around.count_around.Given as goal

-- the counts so far, with what is left of the near ones, come to those of all pairs
abbrev pub invariant-loop-j : goal.invariant-loop-j
invariant-loop-j l = record {
  can_next : (goal.iterator-loop-j).can_next l.near;
  finite : (goal.iterator-loop-j).is_finite l.near;
  long : length l.counts ≡ l.shells.n;
  known : All (λ j. j < length l.mols) (near_left l.near);
  total : (k : ℕ) → k < l.shells.n → get_or l.counts k 0 + count_by (is_behind_in l.shells.first l.shells.second l.shells.reach l.shells.n l.mols l.i k) (near_left l.near)
      ≡ get_or l.initial.counts k 0 + count_by (are_in_shell l.shells.first l.shells.second l.shells.reach l.shells.n k (mol_at l.mols l.i)) (drop (l.i + 1) l.mols);
}
