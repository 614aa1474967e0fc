use Rattle.std.proofs.Common.{FitsSigned, w64, arith, rules}
use Rattle.std.proofs.lemmas.Int.{to_z-of_z}
use Rattle.smol_geom.specs.Axes.{on_axis}
use Rattle.smol_geom.proofs.Sizes.{small_fits}
use Rattle.smol_sheets.proofs.boxes.limited.Goals as goal

pub returns-clause-meets : goal.returns-clause-meets
returns-clause-meets c = λ rect plain met.
    let a0 : FitsSigned w64 (on_axis c.args.c.now.low 0) = small_fits _ (omega (arith, c.requires.low.0)) in
    let b0 : FitsSigned w64 (on_axis c.args.c.now.high 0) = small_fits _ (omega (arith, c.requires.high.0)) in
    let a1 : FitsSigned w64 (on_axis c.args.c.now.low 1) = small_fits _ (omega (arith, c.requires.low.1)) in
    let b1 : FitsSigned w64 (on_axis c.args.c.now.high 1) = small_fits _ (omega (arith, c.requires.high.1)) in
    let a2 : FitsSigned w64 (on_axis c.args.c.now.low 2) = small_fits _ (omega (arith, c.requires.low.2)) in
    let b2 : FitsSigned w64 (on_axis c.args.c.now.high 2) = small_fits _ (omega (arith, c.requires.high.2)) in
    let l0 : FitsSigned w64 c.limited_on-x.result.0 = search rules in
    let h0 : FitsSigned w64 c.limited_on-x.result.1 = search rules in
    let l1 : FitsSigned w64 c.limited_on-y.result.0 = search rules in
    let h1 : FitsSigned w64 c.limited_on-y.result.1 = search rules in
    let l2 : FitsSigned w64 c.limited_on-z.result.0 = search rules in
    let h2 : FitsSigned w64 c.limited_on-z.result.1 = search rules in
    let x = simp (to_z-of_z, a0, b0) at (c.limited_on-x.ensures.meets (on_axis rect.low 0) (on_axis rect.high 0) plain.low.0 plain.high.0) in
    let y = simp (to_z-of_z, a1, b1) at (c.limited_on-y.ensures.meets (on_axis rect.low 1) (on_axis rect.high 1) plain.low.1 plain.high.1) in
    let z = simp (to_z-of_z, a2, b2) at (c.limited_on-z.ensures.meets (on_axis rect.low 2) (on_axis rect.high 2) plain.low.2 plain.high.2) in
    simp (to_z-of_z, l0, h0, l1, h1, l2, h2) (x met.0, y met.1, z met.2)
