use Rattle.std.proofs.Common.{◌≡◌, ◌≤◌, ◌-◌, slice_range}
use Rattle.smol_text.specs.Reading.{words_of}
use Rattle.smol_reactions.specs.Arrangement.{is_sum}
use Rattle.smol_reactions.proofs.arrangement.is_sum.Given as goal

-- the words from here on are a sum where all are
abbrev pub invariant-loop-at : goal.invariant-loop-at
invariant-loop-at l = record {
  within : l.at ≤ l.side.end;
  rest : is_sum (slice_range (words_of l.line) l.side.start l.side.end) ≡ is_sum (slice_range (words_of l.line) l.at l.side.end);
}

abbrev pub decreases-loop-at : goal.decreases-loop-at
decreases-loop-at l = l.side.end - l.at
