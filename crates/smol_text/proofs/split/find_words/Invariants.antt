use Rattle.std.proofs.Common.{◌≡◌, ◌+◌, ◌-◌, ◌++◌, drop, length}
use Rattle.std.specs.List.{slice_split}
use Rattle.smol_text.specs.Lines.{separates}
use Rattle.smol_text.specs.Spans.{places_of_pieces}
use Rattle.smol_text.proofs.split.find_words.Given as goal

abbrev pub invariant-loop-start : goal.invariant-loop-start
invariant-loop-start l =
    l.spans.items ++ places_of_pieces (l.at + l.start) (slice_split separates (drop l.start l.part)) ≡ places_of_pieces l.at (slice_split separates l.part)

abbrev pub decreases-loop-start : goal.decreases-loop-start
decreases-loop-start l = length l.part - l.start
