use Rattle.std.proofs.Common.{[], ◌∷◌, FitsSigned, w64, arith, rules}
use Rattle.std.specs.Int.{w8}
use Rattle.std.proofs.lemmas.Int.{to_z-of_z}
use Rattle.smol_geom.specs.declared.cuboid.Cuboid.{Cuboid}
use Rattle.smol_geom.specs.Axes.{on_axis}
use Rattle.smol_geom.proofs.Sizes.{small_fits}
use Rattle.smol_travel.proofs.Span.{spans_all}
use Rattle.smol_travel.proofs.Ticks.{sign_fits}
use Rattle.smol_travel.proofs.leg.span_of.Goals as goal

pub returns : goal.returns
returns c =
    let s0 : FitsSigned w8 (on_axis c.args.leg.now.fold.sign 0) = sign_fits _ c.requires.fold.fold.0 in
    let a0 : FitsSigned w64 (on_axis c.args.leg.now.from.0 0) = small_fits _ (omega (arith, c.requires.from.0)) in
    let d0 : FitsSigned w64 (on_axis c.args.leg.now.by.0 0) = small_fits _ (omega (arith, c.requires.by.0)) in
    let h0 : FitsSigned w64 (on_axis c.args.leg.now.fold.shift 0) = small_fits _ (omega (arith, c.requires.fold.size.0)) in
    let l0 : FitsSigned w64 c.ends_on-x.result.0 = search rules in
    let u0 : FitsSigned w64 c.ends_on-x.result.1 = search rules in
    let between0 = simp (to_z-of_z, s0, a0, d0, h0) at c.ends_on-x.ensures.between in
    let first0 = simp (to_z-of_z, s0, a0, h0) at c.ends_on-x.ensures.first in
    let last0 = simp (to_z-of_z, s0, a0, d0, h0) at c.ends_on-x.ensures.last in
    let s1 : FitsSigned w8 (on_axis c.args.leg.now.fold.sign 1) = sign_fits _ c.requires.fold.fold.1 in
    let a1 : FitsSigned w64 (on_axis c.args.leg.now.from.0 1) = small_fits _ (omega (arith, c.requires.from.1)) in
    let d1 : FitsSigned w64 (on_axis c.args.leg.now.by.0 1) = small_fits _ (omega (arith, c.requires.by.1)) in
    let h1 : FitsSigned w64 (on_axis c.args.leg.now.fold.shift 1) = small_fits _ (omega (arith, c.requires.fold.size.1)) in
    let l1 : FitsSigned w64 c.ends_on-y.result.0 = search rules in
    let u1 : FitsSigned w64 c.ends_on-y.result.1 = search rules in
    let between1 = simp (to_z-of_z, s1, a1, d1, h1) at c.ends_on-y.ensures.between in
    let first1 = simp (to_z-of_z, s1, a1, h1) at c.ends_on-y.ensures.first in
    let last1 = simp (to_z-of_z, s1, a1, d1, h1) at c.ends_on-y.ensures.last in
    let s2 : FitsSigned w8 (on_axis c.args.leg.now.fold.sign 2) = sign_fits _ c.requires.fold.fold.2 in
    let a2 : FitsSigned w64 (on_axis c.args.leg.now.from.0 2) = small_fits _ (omega (arith, c.requires.from.2)) in
    let d2 : FitsSigned w64 (on_axis c.args.leg.now.by.0 2) = small_fits _ (omega (arith, c.requires.by.2)) in
    let h2 : FitsSigned w64 (on_axis c.args.leg.now.fold.shift 2) = small_fits _ (omega (arith, c.requires.fold.size.2)) in
    let l2 : FitsSigned w64 c.ends_on-z.result.0 = search rules in
    let u2 : FitsSigned w64 c.ends_on-z.result.1 = search rules in
    let between2 = simp (to_z-of_z, s2, a2, d2, h2) at c.ends_on-z.ensures.between in
    let first2 = simp (to_z-of_z, s2, a2, h2) at c.ends_on-z.ensures.first in
    let last2 = simp (to_z-of_z, s2, a2, d2, h2) at c.ends_on-z.ensures.last in
    let span : Cuboid = record {
      low = c.ends_on-x.result.0 ∷ c.ends_on-y.result.0 ∷ c.ends_on-z.result.0 ∷ [];
      high = c.ends_on-x.result.1 ∷ c.ends_on-y.result.1 ∷ c.ends_on-z.result.1 ∷ [];
    } in
    simp (to_z-of_z, l0, u0, l1, u1, l2, u2)
    (record {
      between = spans_all c.args.leg.now span (between0, between1, between2);
      start = (first0, first1, first2);
      end = (last0, last1, last2);
      low = (c.ends_on-x.ensures.low, c.ends_on-y.ensures.low, c.ends_on-z.ensures.low);
      high = (c.ends_on-x.ensures.high, c.ends_on-y.ensures.high, c.ends_on-z.ensures.high);
    })
