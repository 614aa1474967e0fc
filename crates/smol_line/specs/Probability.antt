-- Words that are probabilities, and the shares of the random words that these are.
use Rattle.std.specs.Prelude.{ℕ, ◌*◌, ◌/◌, List, Result}
use Rattle.smol_num.specs.declared.quantities.Threshold.{Threshold}
use Rattle.smol_types.specs.declared.fault.Kind.{Kind}
use Rattle.smol_types.specs.Limits.{certain}
use Rattle.smol_line.specs.Numbers.{unsigned_in}

-- one whole, in billionths
abbrev pub whole_chance : ℕ
whole_chance = 1000000000

-- a probability in billionths
abbrev pub chance_in : List ℕ → Result ℕ Kind
chance_in word = unsigned_in 9 whole_chance word

-- the threshold of a probability in billionths, rounded down
abbrev pub threshold_of : ℕ → Threshold
threshold_of chance = record { 0 = chance * certain / whole_chance }
