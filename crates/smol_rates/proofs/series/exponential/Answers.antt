use Rattle.std.proofs.Common.{◌≡◌, ap, ◌∙◌, arith}
use Rattle.smol_rates.specs.Series.{exponential, squared_times}
use Rattle.smol_rates.proofs.SeriesLemmas.{exponential_fits, exponential_some}
use Rattle.smol_rates.proofs.series.exponential.Goals as goal

pub returns : goal.returns
unfolding exponential
returns c =
    let value : c.squared_five_times.result ≡ exponential c.args.x = c.squared_five_times.ensures ∙ ap (squared_times 5) c.series.ensures in
    let some = exponential_some c.args.x in
    let fits = exponential_fits c.args.x c.requires in
    record { value = value; some = omega (arith, value, some); fits = omega (arith, value, fits) }
