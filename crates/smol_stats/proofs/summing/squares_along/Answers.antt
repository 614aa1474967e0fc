use Rattle.std.proofs.Common.{◌≡◌, ◌∙◌, ◌≤◌, ◌^◌, List, [], arith, ap, ℤ, to_z, of_z, w64, take, unsigned_abs}
use Rattle.std.proofs.lemmas.Int.{fits_signed_from_abs, to_z-of_z}
use Rattle.std.proofs.lemmas.List.{take_all}
use Rattle.smol_types.specs.declared.state.Mol.{Mol}
use Rattle.smol_stats.specs.Sums.{squares_on}
use Rattle.smol_stats.proofs.Summed.{square_small, squares_next}
use Rattle.smol_stats.proofs.summing.squares_along.Goals as goal

pub loop-mol-preserved : goal.loop-mol-preserved
loop-mol-preserved c =
    let i = c.loop-mol.mol-index in
    let nobody : Mol = record { serial = 0; species = 0; place = record { 0 = [] } } in
    let share = c.share.result in
    let size = c.from-size.result in
    let is_size : size ≡ unsigned_abs share =
    c.from-size.ensures ∙ c.unsigned_abs.ensures.value ∙ ap unsigned_abs (to_z-of_z w64 share (fits_signed_from_abs w64 share (omega (arith, c.share.ensures.size)))) in
    let below : size ≤ 2 ^ 49 = omega (arith, is_size, c.share.ensures.size) in
    record {
      summed = squares_next c.args.who.now (to_z w64 (of_z w64 c.args.from)) c.args.axis c.args.mols.now i nobody c.loop-mol.sum size c.loop-mol-test.true c.loop-mol.invariant.summed (is_size ∙ ap unsigned_abs c.share.ensures.value);
      small = omega (arith, square_small size below, c.loop-mol.invariant.small);
    }

pub returns-clause-value : goal.returns-clause-value
returns-clause-value c =
    c.loop-mol.invariant.summed
    ∙ ap (λ (z : ℤ). squares_on c.args.who.now z c.args.axis (take c.loop-mol.mol-index c.args.mols.now)) (to_z-of_z w64 c.args.from c.ranges.from)
    ∙ ap (λ (l : List Mol). squares_on c.args.who.now c.args.from c.args.axis l) (take_all c.loop-mol.mol-index c.args.mols.now c.loop-mol-test.false)
