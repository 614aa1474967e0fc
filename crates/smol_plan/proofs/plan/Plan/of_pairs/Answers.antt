use Rattle.std.proofs.Common.{◌≡◌, length, ◌∙◌, ap, arith}
use Rattle.smol_plan.proofs.EntryLemmas.{AreEntries, AreEntries-from_permutation}
use Rattle.smol_plan.proofs.NeighborLemmas.{IsLinked-from_entries}
use Rattle.smol_plan.proofs.PlanLemmas.{written_back}
use Rattle.smol_plan.proofs.plan.Plan.of_pairs.Goals as goal

pub join_all-requires-clause-inside : goal.join_all-requires-clause-inside
join_all-requires-clause-inside g c =
    let es = c.sort.new.self in
    let perm = rw (c.in_ok-entries.ensures, c.deref.ensures.value) at c.sort.ensures.permutation in
    let are : AreEntries c.args.pairs.items es = AreEntries-from_permutation c.args.pairs.items es perm c.sort.ensures.rising in
    let room : length c.deref_mut.result.now ≡ length c.args.pairs.items = omega (arith, c.deref_mut.ensures.len, c.in_ok-links.ensures.one_each, c.len.ensures, c.args.pairs.ok.0) in
    λ q l. rw room (are.in_list q l)

pub invariant_of-result : goal.invariant_of-result
invariant_of-result g c =
    let es = c.sort.new.self in
    let perm = rw (c.in_ok-entries.ensures, c.deref.ensures.value) at c.sort.ensures.permutation in
    let are : AreEntries c.args.pairs.items es = AreEntries-from_permutation c.args.pairs.items es perm c.sort.ensures.rising in
    let links = c.in_ok-links.links in
    let made = c.join_all.new.links in
    let as_long : length made ≡ length links.items = c.join_all.auto.links ∙ ap length c.deref_mut.ensures.value in
    let room : length made ≡ length c.args.pairs.items = omega (arith, c.join_all.auto.links, c.deref_mut.ensures.len, c.in_ok-links.ensures.one_each, c.len.ensures, c.args.pairs.ok.0) in
    rw (written_back made links.items links.len as_long (omega (arith, links.ok.0))) (IsLinked-from_entries c.args.pairs.items es c.requires.ordered are made room c.join_all.ensures)
