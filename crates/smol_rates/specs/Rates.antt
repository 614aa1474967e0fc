-- How many of the random words are a yes for reactions of a rate. Rates are in billionths per unit of time, and times in nanos.
use Rattle.std.specs.Prelude.{ℕ, ◌+◌, ◌-◌, ◌*◌, ◌/◌, ◌==◌, nat_le, if◌then◌else◌}
use Rattle.smol_num.specs.declared.quantities.Threshold.{Threshold}
use Rattle.smol_rates.specs.Series.{unit, exponential}

-- the greatest rate, for all reactions of a species together
abbrev pub most_rate : ℕ
most_rate = 1100000000000000000

-- the longest time of a step
abbrev pub longest_step : ℕ
longest_step = 1000000000000000000

-- how many random words there are
abbrev pub all_words : ℕ
all_words = 4294967296

-- 32, as a rate times a time: from there on every word is a yes
abbrev pub certain_from : ℕ
certain_from = 32000000000000000000

-- a rate times the time of a step, as the part of 32 that it is
abbrev pub part_of_32 : ℕ → ℕ → ℕ
part_of_32 rate step = rate * step * unit / certain_from

-- the quotient, rounded up
abbrev pub rounded_up : ℕ → ℕ → ℕ
rounded_up n divisor = (n + (divisor - 1)) / divisor

-- of all words, those that are a no: one over this power of e, rounded up
abbrev pub no_words : ℕ → ℕ
no_words power = rounded_up (all_words * unit) power

-- how many words are a yes for a rate in a step of this time
unfoldable pub threshold_of : ℕ → ℕ → Threshold
threshold_of rate step =
    record { 0 = if nat_le certain_from (rate * step) then all_words else all_words - no_words (exponential (part_of_32 rate step)) }

-- the words that are a yes for the first so much of all rates of a species
abbrev pub words_upto : ℕ → ℕ → ℕ → ℕ
words_upto total upto all = total * upto / all

-- the share of a reaction, whose rate stands between these sums of all rates of a species
unfoldable pub share : Threshold → ℕ → ℕ → ℕ → Threshold
share total before upto all =
    record { 0 = if all == 0 then 0 else words_upto total.0 upto all - words_upto total.0 before all }
