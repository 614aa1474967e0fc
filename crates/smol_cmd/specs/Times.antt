-- Words that are times, or the time from one moment to the next.
use Rattle.std.specs.Prelude.{ℕ, ℤ, pos, negsuc, int_lt, List, [], ◌∷◌, Result, Ok}
use Rattle.smol_types.specs.declared.fault.Kind.{Kind}
use Rattle.smol_types.specs.declared.fault.Kind.TheVariants.{BadTiming}
use Rattle.smol_types.specs.Limits.{latest}
use Rattle.smol_line.specs.Checks.{unless, passing, with_value}
use Rattle.smol_line.specs.Numbers.{decimal_in}

-- the earliest time there is, in nanos
abbrev pub earliest : ℤ
earliest = negsuc 999999999999999999

-- a time in nanos
abbrev pub time_in : List ℕ → Result ℤ Kind
time_in word = decimal_in 9 earliest (pos latest) word

-- the time from one moment to the next, which is above 0
abbrev pub interval_in : List ℕ → Result ℤ Kind
interval_in word = with_value (time_in word) (λ time. passing (unless (int_lt (pos 0) time) BadTiming ∷ []) (Ok time))
