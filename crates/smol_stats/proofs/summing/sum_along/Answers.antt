use Rattle.std.proofs.Common.{◌≡◌, ◌∙◌, ◌<◌, ◌+ℤ◌, [], arith, pos, to_z, of_z, w64}
use mir.Syntax.{w128}
use Rattle.std.proofs.lemmas.Int.{fits_signed_from_abs, to_z-of_z}
use Rattle.smol_types.specs.declared.state.Mol.{Mol}
use Rattle.smol_stats.proofs.Summed.{added_is, sum_next, sum_small}
use Rattle.smol_stats.proofs.summing.sum_along.Goals as goal

pub loop-mol-preserved : goal.loop-mol-preserved
loop-mol-preserved c =
    let i = c.loop-mol.mol-index in
    let nobody : Mol = record { serial = 0; species = 0; place = record { 0 = [] } } in
    let sum = to_z w128 c.loop-mol.sum-bits in
    let share = c.share-share.result in
    let within : i < 1000000 = omega (arith, c.loop-mol-test.true, c.requires.few) in
    let wide : c.from-sum.result ≡ share =
    c.from-sum.ensures ∙ to_z-of_z w64 share (fits_signed_from_abs w64 share (omega (arith, c.share-share.ensures.size))) in
    let added : to_z w128 (of_z w128 (sum +ℤ to_z w128 (of_z w128 c.from-sum.result))) ≡ sum +ℤ share =
    rw wide (added_is sum share i c.loop-mol.invariant.small within c.share-share.ensures.size) in
    record {
      summed = added ∙ sum_next c.args.who.now (pos 0) c.args.axis c.args.mols.now i nobody sum share c.loop-mol-test.true c.loop-mol.invariant.summed c.share-share.ensures.value;
      small = rw added (sum_small sum share i c.loop-mol.invariant.small c.share-share.ensures.size);
    }
