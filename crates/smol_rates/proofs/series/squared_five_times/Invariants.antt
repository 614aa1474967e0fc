use Rattle.std.proofs.Common.{◌≡◌}
use Rattle.smol_rates.specs.Series.{squared_times}
use Rattle.smol_rates.proofs.series.squared_five_times.Given as goal

abbrev pub invariant-loop-turn : goal.invariant-loop-turn
invariant-loop-turn l = l.power ≡ squared_times l._turn l.fn.e
