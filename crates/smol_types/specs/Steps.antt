-- The steps of a run, and their times in nanos.
use Rattle.std.specs.Prelude.{ℕ, ◌+◌, ◌-◌, ◌/◌, ℤ, pos, ◌+ℤ◌, ◌*ℤ◌, unsigned_abs}
use Rattle.std.specs.Int.{int_gap}

-- the last step: the time from the start to the stop in steps, rounded up, and 0 where the stop isn't after the start
abbrev pub last_step : ℤ → ℤ → ℤ → ℕ
last_step start stop step = (int_gap start stop + (unsigned_abs step - 1)) / unsigned_abs step

-- the time of the state after k steps
abbrev pub time_at : ℤ → ℤ → ℕ → ℤ
time_at start step k = start +ℤ (pos k *ℤ step)
