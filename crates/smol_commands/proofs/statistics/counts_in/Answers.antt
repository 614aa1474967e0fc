use Rattle.std.proofs.Common.{◌≡◌, ◌∙◌, ℕ, ℤ, List, Bool, IfOk, length, subst, arith, to_z, of_z, w64}
use Rattle.std.proofs.lemmas.Int.{fits_signed_from_abs, to_z-of_z}
use Rattle.smol_stats.specs.Bins.{bins_of}
use Rattle.smol_meaning.specs.Statistics.{marks_of}
use Rattle.smol_commands.proofs.statistics.counts_in.Goals as goal

pub returns : goal.returns
returns c =
    let space = c.args.space.now in
    let range = c.requires.range in
    let small_low = range.0 in
    let small_high = range.1 in
    let low : to_z w64 (of_z w64 space.low) ≡ space.low = to_z-of_z w64 space.low (fits_signed_from_abs w64 space.low (omega (arith, small_low))) in
    let high : to_z w64 (of_z w64 space.high) ≡ space.high = to_z-of_z w64 space.high (fits_signed_from_abs w64 space.high (omega (arith, small_high))) in
    let marks : c.deref.result.now ≡ marks_of (length c.args.config.now.species) space.who.now =
    c.deref.ensures.value ∙ c.in_ok-marks.ensures.value in
    subst (λ (z : ℤ). IfOk c.bins.result (λ counts. counts.items ≡ bins_of (marks_of (length c.args.config.now.species) space.who.now) space.axis space.low z space.bins c.args.mols.now)) high
    (subst (λ (z : ℤ). IfOk c.bins.result (λ counts. counts.items ≡ bins_of (marks_of (length c.args.config.now.species) space.who.now) space.axis z (to_z w64 (of_z w64 space.high)) space.bins c.args.mols.now)) low
    (subst (λ (axis : ℕ). IfOk c.bins.result (λ counts. counts.items ≡ bins_of (marks_of (length c.args.config.now.species) space.who.now) axis (to_z w64 (of_z w64 space.low)) (to_z w64 (of_z w64 space.high)) space.bins c.args.mols.now)) c.from-axis.ensures
    (subst (λ (marks : List Bool). IfOk c.bins.result (λ counts. counts.items ≡ bins_of marks c.from-axis.result (to_z w64 (of_z w64 space.low)) (to_z w64 (of_z w64 space.high)) space.bins c.args.mols.now)) marks c.bins.ensures)))
