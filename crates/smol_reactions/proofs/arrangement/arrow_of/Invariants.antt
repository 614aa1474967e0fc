use Rattle.std.proofs.Common.{◌≡◌, ℕ, ◌<◌, ◌-◌, false, [], drop, get_or}
use Rattle.smol_text.specs.Reading.{words_of}
use Rattle.smol_reactions.specs.Arrangement.{is_arrow}
use Rattle.smol_reactions.proofs.arrangement.arrow_of.Given as goal

-- no word so far is an arrow
abbrev pub invariant-loop-at : goal.invariant-loop-at
invariant-loop-at l = (k : ℕ) → k < l.at - 2 → is_arrow (get_or (drop 2 (words_of l.line)) k []) ≡ false
