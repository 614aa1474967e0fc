use Rattle.std.proofs.Common.{◌≡◌, ℕ, ◌<◌, length}
use Rattle.smol_pairs.specs.Searching.{HaveMetAt, IsGrownIn, IsInBoxes, number_in}
use Rattle.smol_pairs.proofs.rows.look_in_layers.Given as goal

-- what was found has grown, and the place has met those behind it in the layers so far
abbrev pub invariant-loop-layer : goal.invariant-loop-layer
invariant-loop-layer l = record {
  seed : l.streams ≡ l.initial.streams;
  grown : IsGrownIn l.search l.initial.keys l.keys;
  met : (q : ℕ) → l.place < q → q < length l.search.seekers.now → IsInBoxes l.search l.boxes q → number_in l.search q 2 < l.layer
      → HaveMetAt l.search l.keys l.place q;
}
