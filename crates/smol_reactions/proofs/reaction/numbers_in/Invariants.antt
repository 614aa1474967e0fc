use Rattle.std.proofs.Common.{◌≡◌, ◌≤◌, ◌-◌, slice_range}
use Rattle.smol_text.specs.Reading.{words_of}
use Rattle.smol_reactions.specs.Arrangement.{summands}
use Rattle.smol_reactions.specs.Reaction.{numbers_in}
use Rattle.smol_reactions.proofs.Sides.{numbers_behind}
use Rattle.smol_reactions.proofs.reaction.numbers_in.Given as goal

-- the numbers so far come before those of the words from here on
abbrev pub invariant-loop-at : goal.invariant-loop-at
invariant-loop-at l = record {
  within : l.at ≤ l.side.end;
  rest : numbers_in l.species (summands (slice_range (words_of l.line) l.side.start l.side.end))
      ≡ numbers_behind l.numbers (numbers_in l.species (summands (slice_range (words_of l.line) l.at l.side.end)));
}

abbrev pub decreases-loop-at : goal.decreases-loop-at
decreases-loop-at l = l.side.end - l.at
