-- Which word of a matching is which: word 0, one for each slice, and two for each pair.
use Rattle.std.specs.Prelude.{ℕ, ◌+◌, List, length}
use Rattle.smol_plan.specs.declared.pair.Pair.{Pair}
use Rattle.smol_plan.specs.Machine.{slice_count}

-- whether a slice is taken: 0 or 1
abbrev pub slice_at : ℕ → ℕ
slice_at slice = 1 + slice

-- how many links of a pair are not told
abbrev pub counter_at : List Pair → ℕ → ℕ
counter_at pairs j = 1 + slice_count pairs + j

-- what is decided of a pair
abbrev pub decision_at : List Pair → ℕ → ℕ
decision_at pairs j = 1 + slice_count pairs + length pairs + j

-- how many words there are; the first one is 0 always
abbrev pub claim_word_count : List Pair → ℕ
claim_word_count pairs = 1 + slice_count pairs + length pairs + length pairs
