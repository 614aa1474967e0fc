-- `time_start T`, `time_stop T` and `time_step T`: times in nanos, from -10^9 to 10^9 seconds. Each stands once, and the step is above 0.
use Rattle.std.specs.Prelude.{ℕ, ℤ, pos, negsuc, int_lt, List, [], ◌∷◌, Option, None, Some, Result, Ok}
use Rattle.smol_text.specs.Reading.{Stated}
use Rattle.smol_types.specs.declared.fault.Kind.{Kind}
use Rattle.smol_types.specs.declared.fault.Kind.TheVariants.{OutOfRange}
use Rattle.smol_types.specs.Limits.{latest}
use Rattle.smol_line.specs.Checks.{unless, passing, with_value}
use Rattle.smol_line.specs.Numbers.{decimal_in}
use Rattle.smol_line.specs.LookingBack.{nearest}
use Rattle.smol_config.specs.declared.times.Times.{Times}
use Rattle.smol_config.specs.Once.{stands_once}
use Rattle.smol_config.specs.Said.{Said, starts, stops, steps, of_times}

-- a time in nanos
abbrev pub nanos_in : List ℕ → Result ℤ Kind
nanos_in word = decimal_in 9 (negsuc 999999999999999999) (pos latest) word

abbrev pub said_start : Said → Option ℤ
said_start (of_times (starts time)) = Some time
said_start other = None

abbrev pub said_stop : Said → Option ℤ
said_stop (of_times (stops time)) = Some time
said_stop other = None

abbrev pub said_step : Said → Option ℤ
said_step (of_times (steps time)) = Some time
said_step other = None

-- the time at which the run starts, where a line before gives it, and so on
abbrev pub time_start_of : List Said → Option ℤ
time_start_of before = nearest said_start before

abbrev pub time_stop_of : List Said → Option ℤ
time_stop_of before = nearest said_stop before

abbrev pub time_step_of : List Said → Option ℤ
time_step_of before = nearest said_step before

-- the times that the lines before give
abbrev pub times_of : List Said → Times
times_of before = record { start = time_start_of before; stop = time_stop_of before; step = time_step_of before }

-- the time of a line, by what a line before gives by the same statement
unfoldable pub given_time_in : Option ℤ → Stated → Result ℤ Kind
given_time_in given line = stands_once given nanos_in line

-- the time of a step, which takes some
abbrev pub step_in : List ℕ → Result ℤ Kind
step_in word = with_value (nanos_in word) (λ time. passing (unless (int_lt (pos 0) time) OutOfRange ∷ []) (Ok time))

-- the same of a line
unfoldable pub time_step_in : Option ℤ → Stated → Result ℤ Kind
time_step_in given line = stands_once given step_in line
