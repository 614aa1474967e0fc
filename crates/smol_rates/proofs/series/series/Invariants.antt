use Rattle.std.proofs.Common.{◌≡◌}
use Rattle.smol_rates.specs.Series.{term}
use Rattle.smol_rates.proofs.SeriesLemmas.{sum_up}
use Rattle.smol_rates.proofs.series.series.Given as goal

abbrev pub invariant-loop-number : goal.invariant-loop-number
invariant-loop-number l = (l.term ≡ term l.x l.number) × (l.sum ≡ sum_up (term l.x) l.number)
