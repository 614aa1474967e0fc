use Rattle.std.proofs.Common.{arith}
use Rattle.std.proofs.lemmas.Int.{clamps, ints}
use Rattle.smol_stats.proofs.around.span_on.Goals as goal

pub loop-mol-preserved : goal.loop-mol-preserved
loop-mol-preserved c =
    let x = c.coordinate-x.ensures in
    let a = c.min-low.ensures.value in
    let b = c.max-high.ensures.value in
    let low = c.loop-mol.invariant.low in
    let high = c.loop-mol.invariant.high in
    let ordered = c.loop-mol.invariant.ordered in
    record {
      low = omega (arith, ints, clamps, a, x, low);
      high = omega (arith, ints, clamps, b, x, high);
      ordered = omega (arith, ints, clamps, a, b, x, low, high, ordered);
    }
