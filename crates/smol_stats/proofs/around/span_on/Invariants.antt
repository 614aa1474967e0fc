use Rattle.std.proofs.Common.{◌≤◌, ◌^◌, ◌≤ℤ◌, unsigned_abs}
use Rattle.smol_stats.proofs.around.span_on.Given as goal

-- the ends are small and ordered
abbrev pub invariant-loop-mol : goal.invariant-loop-mol
invariant-loop-mol l = record {
  low : unsigned_abs l.low ≤ 2 ^ 57;
  high : unsigned_abs l.high ≤ 2 ^ 57;
  ordered : l.low ≤ℤ l.high;
}
