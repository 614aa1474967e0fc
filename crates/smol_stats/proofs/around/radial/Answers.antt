use Rattle.std.proofs.Common.{◌≡◌, ◌∙◌, ◌≤◌, ◌<◌, ◌+◌, ◌*◌, ℕ, List, [], ◌++◌, length, get_or, drop, take, count_by, All, ◌^◌, sym, subst, arith, ap}
use Rattle.std.proofs.lemmas.List.{drop_all, get_or_default}
use Rattle.std.proofs.lemmas.List.Sorted.{All-permutation, length_permutation}
use Rattle.std.proofs.lemmas.List.Sums.{count_by-le-length}
use Rattle.smol_geom.specs.Axes.{IsWithin}
use Rattle.smol_types.specs.declared.state.Mol.{Mol}
use Rattle.smol_stats.specs.Radial.{are_in_shell, mol_at, pairs_of}
use Rattle.smol_stats.proofs.Pairs.{few_pairs, pairs_from}
use Rattle.smol_stats.proofs.Permuted.{as_many_in_shell}
use Rattle.smol_stats.proofs.Tallies.{all_written, tally_is}
use Rattle.smol_stats.proofs.around.radial.Goals as goal

pub count_around-requires-clause-small : goal.count_around-requires-clause-small
count_around-requires-clause-small c k d there =
    let mols = c.in_ok-sorted.sorted.mols.items in
    let few : length mols ≤ 1000000 = omega (arith, length_permutation c.args.mols.now mols c.in_ok-sorted.ensures.order, c.requires.few) in
    let p = λ (pair : Mol × Mol). are_in_shell c.args.first c.args.second (2 * c.args.radius) c.args.n k pair.0 pair.1 in
    let same : get_or c.deref_mut.result.now k d ≡ get_or c.loop-i.counts.items k 0 = get_or_default c.deref_mut.result.now k d 0 there ∙ ap (λ (l : List ℕ). get_or l k 0) c.deref_mut.ensures.value in
    let within : k < c.args.n = omega (arith, there, ap length c.deref_mut.ensures.value, c.loop-i.invariant.long) in
    let total = c.loop-i.invariant.total k within in
    let most : count_by p (pairs_of mols) ≤ length (pairs_of mols) = count_by-le-length p (pairs_of mols) in
    omega (arith, same, total, most, few_pairs mols few, few)

pub loop-i-preserved : goal.loop-i-preserved
loop-i-preserved c =
    let mols = c.in_ok-sorted.sorted.mols.items in
    let few : length mols ≤ 1000000 = omega (arith, length_permutation c.args.mols.now mols c.in_ok-sorted.ensures.order, c.requires.few) in
    let i = c.loop-i.i in
    let items = c.loop-i.counts.items in
    let new = c.count_around.new.counts in
    let within_mols : i < length mols = omega (arith, c.loop-i-test.true, c.len-i-end.ensures, c.in_ok-sorted.sorted.mols.ok.0) in
    let nobody : Mol = record { serial = 0; species = 0; place = record { 0 = [] } } in
    let long : length new ≡ c.args.n = c.count_around.ensures.long in
    let written : take c.loop-i.counts.len (new ++ drop (length new) items) ≡ new =
    all_written items new c.loop-i.counts.len (omega (arith, long, c.loop-i.invariant.long)) c.loop-i.counts.ok.0 in
    record {
      long = ap length written ∙ long;
      total = λ k within.
          let p = λ (pair : Mol × Mol). are_in_shell c.args.first c.args.second (2 * c.args.radius) c.args.n k pair.0 pair.1 in
          let around : ℕ = count_by (are_in_shell c.args.first c.args.second (2 * c.args.radius) c.args.n k (mol_at mols i)) (drop (i + 1) mols) in
          let from : count_by p (pairs_of (drop i mols)) ≡ around + count_by p (pairs_of (drop (i + 1) mols)) = pairs_from p mols i nobody within_mols in
          let raised : get_or new k 0 ≡ get_or items k 0 + around =
          c.count_around.ensures.counted k within
          ∙ (λ e. get_or (c.deref_mut.ensures.value e) k 0 + count_by (are_in_shell c.args.first c.args.second (2 * c.args.radius) c.args.n k (mol_at (c.deref.ensures.value e) i)) (drop (i + 1) (c.deref.ensures.value e))) in
          let total : get_or items k 0 + count_by p (pairs_of (drop i mols)) ≡ count_by p (pairs_of mols) = c.loop-i.invariant.total k within in
          let next : get_or new k 0 + count_by p (pairs_of (drop (i + 1) mols)) ≡ count_by p (pairs_of mols) = omega (arith, from, raised, total) in
          ap (λ (l : List ℕ). get_or l k 0 + count_by p (pairs_of (drop (i + 1) mols))) written ∙ next;
    }

pub returns : goal.returns
returns c =
    let mols = c.in_ok-sorted.sorted.mols.items in
    let few : length mols ≤ 1000000 = omega (arith, length_permutation c.args.mols.now mols c.in_ok-sorted.ensures.order, c.requires.few) in
    let i = c.loop-i.i in
    let over : length mols ≤ i = omega (arith, c.loop-i-test.false, c.len-i-end.ensures, c.in_ok-sorted.sorted.mols.ok.0) in
    let gone : drop i mols ≡ [] = drop_all i mols over in
    tally_is (λ k (pair : Mol × Mol). are_in_shell c.args.first c.args.second (2 * c.args.radius) c.args.n k pair.0 pair.1) c.args.n (pairs_of c.args.mols.now) c.loop-i.counts.items c.loop-i.invariant.long
    (λ k within.
    let p = λ (pair : Mol × Mol). are_in_shell c.args.first c.args.second (2 * c.args.radius) c.args.n k pair.0 pair.1 in
    let none : count_by p (pairs_of (drop i mols)) ≡ 0 = ap (λ (l : List Mol). count_by p (pairs_of l)) gone in
    let total : get_or c.loop-i.counts.items k 0 + count_by p (pairs_of (drop i mols)) ≡ count_by p (pairs_of mols) = c.loop-i.invariant.total k within in
    let moved : count_by p (pairs_of mols) ≡ count_by p (pairs_of c.args.mols.now) = as_many_in_shell c.args.first c.args.second (2 * c.args.radius) c.args.n k c.args.mols.now mols c.in_ok-sorted.ensures.order in
    omega (arith, none, total, moved))

pub count_around-requires-clause-few : goal.count_around-requires-clause-few
count_around-requires-clause-few c =
    let mols = c.in_ok-sorted.sorted.mols.items in
    omega (arith, ap length c.deref.ensures.value, length_permutation c.args.mols.now mols c.in_ok-sorted.ensures.order, c.requires.few)

pub count_around-requires-clause-places : goal.count_around-requires-clause-places
count_around-requires-clause-places c =
    let mols = c.in_ok-sorted.sorted.mols.items in
    subst (λ (l : List Mol). All (λ (mol : Mol). IsWithin (2 ^ 57) mol.place.0) l) (sym c.deref.ensures.value)
    (All-permutation (λ (mol : Mol). IsWithin (2 ^ 57) mol.place.0) c.args.mols.now mols c.in_ok-sorted.ensures.order c.requires.places)
