use Rattle.std.proofs.Common.{◌≡◌, ℕ, ◌<◌, ◌≤◌, length}
use Rattle.smol_pairs.specs.Searching.{HaveMetAt, IsGrownIn}
use Rattle.smol_pairs.proofs.rows.look_from.Given as goal

-- what was found has grown, and each place so far has met all behind it
abbrev pub invariant-loop-place : goal.invariant-loop-place
invariant-loop-place l = record {
  seed : l.streams ≡ l.initial.streams;
  grown : IsGrownIn l.search l.initial.keys l.keys;
  met : (p q : ℕ) → l.fn.places.start ≤ p → p < l.place → p < q → q < length l.search.seekers.now → HaveMetAt l.search l.keys p q;
}
