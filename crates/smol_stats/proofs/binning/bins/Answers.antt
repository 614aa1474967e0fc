use Rattle.std.proofs.Common.{◌≡◌, ◌∙◌, ◌≤◌, List, [], length, length-take-le, get_or, take, arith, ap, sym, to_z, of_z, w64}
use Rattle.std.proofs.lemmas.Int.{to_z-of_z}
use Rattle.std.proofs.lemmas.List.{take_all}
use Rattle.smol_types.specs.declared.state.Mol.{Mol}
use Rattle.smol_stats.specs.Bins.{bins_of, is_mol_in_bin}
use Rattle.smol_stats.proofs.Tallies.{all_written, counts_small, length_raised, tally_next, tally_none}
use Rattle.smol_stats.proofs.binning.bins.Goals as goal

pub loop-mol-init : goal.loop-mol-init
loop-mol-init c = record {
  counted =
      c.in_ok-counts.ensures.items_if_clones_equal (λ y same. same)
      ∙ sym (tally_none (is_mol_in_bin c.args.who.now c.args.axis (to_z w64 (of_z w64 c.args.low)) (to_z w64 (of_z w64 c.args.high)) c.args.n) c.args.n);
}

pub raise-requires-clause-small : goal.raise-requires-clause-small
raise-requires-clause-small c k d there =
    let mols = c.args.mols.now in
    let i = c.loop-mol.mol-index in
    let is_at = is_mol_in_bin c.args.who.now c.args.axis (to_z w64 (of_z w64 c.args.low)) (to_z w64 (of_z w64 c.args.high)) c.args.n in
    let few : length (take i mols) ≤ 1000000 = omega (arith, length-take-le i mols c.loop-mol.auto.mol-index-end, c.loop-mol.auto.mol-index-end, c.requires.few) in
    let small : get_or c.deref_mut.result.now k d ≤ 1000000 =
    counts_small is_at c.args.n (take i mols) c.deref_mut.result.now 1000000 k d (c.deref_mut.ensures.value ∙ c.loop-mol.invariant.counted) few there in
    omega (arith, small)

pub loop-mol-preserved : goal.loop-mol-preserved
loop-mol-preserved c =
    let mols = c.args.mols.now in
    let i = c.loop-mol.mol-index in
    let nobody : Mol = record { serial = 0; species = 0; place = record { 0 = [] } } in
    let is_at = is_mol_in_bin c.args.who.now c.args.axis (to_z w64 (of_z w64 c.args.low)) (to_z w64 (of_z w64 c.args.high)) c.args.n in
    let old = c.deref_mut.result.now in
    let long : length c.raise.new.counts ≡ length c.loop-mol.counts.items =
    ap length c.raise.ensures ∙ length_raised old c.bin_of_mol-bin.result ∙ ap length c.deref_mut.ensures.value in
    record {
      counted =
          all_written c.loop-mol.counts.items c.raise.new.counts c.loop-mol.counts.len long c.loop-mol.counts.ok.0
          ∙ tally_next is_at c.args.n mols i nobody c.bin_of_mol-bin.result old c.raise.new.counts c.loop-mol-test.true
          (c.deref_mut.ensures.value ∙ c.loop-mol.invariant.counted) c.bin_of_mol-bin.ensures c.raise.ensures;
    }

pub returns : goal.returns
returns c =
    let low_is = to_z-of_z w64 c.args.low c.ranges.low in
    let high_is = to_z-of_z w64 c.args.high c.ranges.high in
    c.loop-mol.invariant.counted
    ∙ (λ k. bins_of c.args.who.now c.args.axis (low_is k) (high_is k) c.args.n (take c.loop-mol.mol-index c.args.mols.now))
    ∙ ap (λ (l : List Mol). bins_of c.args.who.now c.args.axis c.args.low c.args.high c.args.n l) (take_all c.loop-mol.mol-index c.args.mols.now c.loop-mol-test.false)
