use Rattle.std.proofs.Common.{◌≡◌, ℕ, ◌<◌, length}
use Rattle.smol_pairs.specs.Searching.{HaveMetAt, IsGrownIn, IsInLayer, number_in}
use Rattle.smol_pairs.proofs.rows.look_in_layer.Given as goal

-- what was found has grown, and the place has met those behind it in the rows so far
abbrev pub invariant-loop-row : goal.invariant-loop-row
invariant-loop-row l = record {
  seed : l.streams ≡ l.initial.streams;
  grown : IsGrownIn l.search l.initial.keys l.keys;
  met : (q : ℕ) → l.place < q → q < length l.search.seekers.now → IsInLayer l.search l.boxes l.layer q → number_in l.search q 1 < l.row
      → HaveMetAt l.search l.keys l.place q;
}
