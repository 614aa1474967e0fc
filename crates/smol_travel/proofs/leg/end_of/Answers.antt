use Rattle.std.proofs.Common.{◌∙◌, [], ◌∷◌, FitsSigned, w64, arith}
use Rattle.std.specs.Int.{w8}
use Rattle.std.proofs.lemmas.Int.{to_z-of_z}
use Rattle.smol_geom.specs.Axes.{on_axis}
use Rattle.smol_geom.proofs.Sizes.{small_fits}
use Rattle.smol_travel.proofs.Ticks.{sign_fits}
use Rattle.smol_travel.proofs.leg.end_of.Goals as goal

pub returns : goal.returns
returns c =
    let s0 : FitsSigned w8 (on_axis c.args.leg.now.fold.sign 0) = sign_fits _ c.requires.fold.fold.0 in
    let a0 : FitsSigned w64 (on_axis c.args.leg.now.from.0 0) = small_fits _ (omega (arith, c.requires.from.0)) in
    let d0 : FitsSigned w64 (on_axis c.args.leg.now.by.0 0) = small_fits _ (omega (arith, c.requires.by.0)) in
    let h0 : FitsSigned w64 (on_axis c.args.leg.now.fold.shift 0) = small_fits _ (omega (arith, c.requires.fold.size.0)) in
    let r0 : FitsSigned w64 c.end_on.result = record { sfits = c.end_on.type_inv } in
    let e0 = to_z-of_z w64 c.end_on.result r0 ∙ simp (to_z-of_z, s0, a0, d0, h0) at c.end_on.ensures.value in
    let s1 : FitsSigned w8 (on_axis c.args.leg.now.fold.sign 1) = sign_fits _ c.requires.fold.fold.1 in
    let a1 : FitsSigned w64 (on_axis c.args.leg.now.from.0 1) = small_fits _ (omega (arith, c.requires.from.1)) in
    let d1 : FitsSigned w64 (on_axis c.args.leg.now.by.0 1) = small_fits _ (omega (arith, c.requires.by.1)) in
    let h1 : FitsSigned w64 (on_axis c.args.leg.now.fold.shift 1) = small_fits _ (omega (arith, c.requires.fold.size.1)) in
    let r1 : FitsSigned w64 c.end_on-2.result = record { sfits = c.end_on-2.type_inv } in
    let e1 = to_z-of_z w64 c.end_on-2.result r1 ∙ simp (to_z-of_z, s1, a1, d1, h1) at c.end_on-2.ensures.value in
    let s2 : FitsSigned w8 (on_axis c.args.leg.now.fold.sign 2) = sign_fits _ c.requires.fold.fold.2 in
    let a2 : FitsSigned w64 (on_axis c.args.leg.now.from.0 2) = small_fits _ (omega (arith, c.requires.from.2)) in
    let d2 : FitsSigned w64 (on_axis c.args.leg.now.by.0 2) = small_fits _ (omega (arith, c.requires.by.2)) in
    let h2 : FitsSigned w64 (on_axis c.args.leg.now.fold.shift 2) = small_fits _ (omega (arith, c.requires.fold.size.2)) in
    let r2 : FitsSigned w64 c.end_on-3.result = record { sfits = c.end_on-3.type_inv } in
    let e2 = to_z-of_z w64 c.end_on-3.result r2 ∙ simp (to_z-of_z, s2, a2, d2, h2) at c.end_on-3.ensures.value in
    λ i. record { 0 = e0 i ∷ e1 i ∷ e2 i ∷ [] }
