use Rattle.std.proofs.Common.{arith}
use Rattle.smol_rates.proofs.SeriesLemmas.{square_fits}
use Rattle.smol_rates.proofs.series.squared_five_times.Goals as goal

pub overflow_mul-power : goal.overflow_mul-power
overflow_mul-power c =
    let fits = square_fits c.loop-turn._turn c.args.e (omega arith) c.requires in
    rw c.loop-turn.invariant (omega (arith, fits))
