use Rattle.std.proofs.Common.{◌≡◌, ◌∙◌, ◌<ℤ◌, ◌-ℤ◌, unsigned_abs, arith, w64}
use Rattle.std.proofs.lemmas.Int.{ints, to_z-of_z}
use Rattle.smol_stats.proofs.InBins.{in_its_bin}
use Rattle.smol_stats.proofs.binning.bin_of.Goals as goal

pub returns : goal.returns
returns c =
    let x_is = to_z-of_z w64 c.args.x c.ranges.x in
    let low_is = to_z-of_z w64 c.args.low c.ranges.low in
    let high_is = to_z-of_z w64 c.args.high c.ranges.high in
    let above : c.args.low <ℤ c.args.x = grind (arith, ints) in
    let below : c.args.x <ℤ c.args.high = grind (arith, ints) in
    let a_is : c.abs_diff.result ≡ unsigned_abs (c.args.x -ℤ c.args.low) = c.abs_diff.ensures ∙ (λ i. unsigned_abs (x_is i -ℤ low_is i)) in
    let w_is : c.abs_diff-2.result ≡ unsigned_abs (c.args.high -ℤ c.args.low) = c.abs_diff-2.ensures ∙ (λ i. unsigned_abs (high_is i -ℤ low_is i)) in
    rw c.from.ensures (in_its_bin c.args.low c.args.high c.args.x c.args.n c.abs_diff.result c.abs_diff-2.result above below c.requires.some a_is w_is)
