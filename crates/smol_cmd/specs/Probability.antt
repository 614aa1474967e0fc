-- A word that is a probability, as the share of the random words that are a yes.
use Rattle.std.specs.Prelude.{ℕ, List, Result, Ok}
use Rattle.smol_num.specs.declared.quantities.Threshold.{Threshold}
use Rattle.smol_types.specs.declared.fault.Kind.{Kind}
use Rattle.smol_line.specs.Checks.{with_value}
use Rattle.smol_line.specs.Probability.{chance_in, threshold_of}

-- the threshold of a probability from 0 to 1, rounded down
abbrev pub probability_in : List ℕ → Result Threshold Kind
probability_in word = with_value (chance_in word) (λ chance. Ok (threshold_of chance))
