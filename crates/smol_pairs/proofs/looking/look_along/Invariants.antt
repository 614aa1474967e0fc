use Rattle.std.proofs.Common.{◌≡◌, ℕ, ◌<◌, ◌≤◌}
use Rattle.smol_pairs.specs.Searching.{HaveMetAt, IsGrownIn}
use Rattle.smol_pairs.proofs.looking.look_along.Given as goal

-- what was found has grown, and the place has met those of the run so far that are behind it
abbrev pub invariant-loop-other : goal.invariant-loop-other
invariant-loop-other l = record {
  seed : l.streams ≡ l.initial.streams;
  grown : IsGrownIn l.search l.initial.keys l.keys;
  met : (q : ℕ) → l.place < q → l.fn.run.start ≤ q → q < l.other → HaveMetAt l.search l.keys l.place q;
}
