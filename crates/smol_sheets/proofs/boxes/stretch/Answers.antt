use Rattle.std.proofs.Common.{FitsSigned, w64, arith, rules}
use Rattle.std.proofs.lemmas.Int.{to_z-of_z}
use Rattle.smol_geom.specs.Axes.{on_axis}
use Rattle.smol_geom.proofs.Sizes.{small_fits}
use Rattle.smol_sheets.proofs.boxes.stretch.Goals as goal

pub returns-clause-both : goal.returns-clause-both
returns-clause-both c =
    let a0 : FitsSigned w64 (on_axis c.args.a.now.0 0) = small_fits _ (omega (arith, c.requires.a.size.0)) in
    let b0 : FitsSigned w64 (on_axis c.args.b.now.0 0) = small_fits _ (omega (arith, c.requires.b.size.0)) in
    let l0 : FitsSigned w64 c.stretch_on-x.result.0 = search rules in
    let h0 : FitsSigned w64 c.stretch_on-x.result.1 = search rules in
    let p0 = simp (to_z-of_z, a0) at c.stretch_on-x.ensures.a in
    let q0 = simp (to_z-of_z, b0) at c.stretch_on-x.ensures.b in
    let a1 : FitsSigned w64 (on_axis c.args.a.now.0 1) = small_fits _ (omega (arith, c.requires.a.size.1)) in
    let b1 : FitsSigned w64 (on_axis c.args.b.now.0 1) = small_fits _ (omega (arith, c.requires.b.size.1)) in
    let l1 : FitsSigned w64 c.stretch_on-y.result.0 = search rules in
    let h1 : FitsSigned w64 c.stretch_on-y.result.1 = search rules in
    let p1 = simp (to_z-of_z, a1) at c.stretch_on-y.ensures.a in
    let q1 = simp (to_z-of_z, b1) at c.stretch_on-y.ensures.b in
    let a2 : FitsSigned w64 (on_axis c.args.a.now.0 2) = small_fits _ (omega (arith, c.requires.a.size.2)) in
    let b2 : FitsSigned w64 (on_axis c.args.b.now.0 2) = small_fits _ (omega (arith, c.requires.b.size.2)) in
    let l2 : FitsSigned w64 c.stretch_on-z.result.0 = search rules in
    let h2 : FitsSigned w64 c.stretch_on-z.result.1 = search rules in
    let p2 = simp (to_z-of_z, a2) at c.stretch_on-z.ensures.a in
    let q2 = simp (to_z-of_z, b2) at c.stretch_on-z.ensures.b in
    simp (to_z-of_z, l0, h0, l1, h1, l2, h2) ((p0, q0), (p1, q1), (p2, q2))
