use Rattle.std.proofs.Common.{◌≡◌, ℕ, map, All}
use Rattle.smol_meaning.specs.Events.{is_free}
use Rattle.smol_pairs.specs.Seekers.{AreCovered, IsSeeker}
use Rattle.smol_pairs.proofs.seeker.seekers_of.Given as goal

-- those of the ranks so far are seekers
abbrev pub invariant-loop-rank : goal.invariant-loop-rank
invariant-loop-rank l = record {
  seekers : (seed k : ℕ) → l.free ≡ map (is_free l.reaches seed k) l.mols → All (IsSeeker l.reaches seed k l.mols) l.seekers.items;
  covered : (seed k : ℕ) → l.free ≡ map (is_free l.reaches seed k) l.mols → AreCovered l.reaches seed k l.mols l.rank l.seekers.items;
}
