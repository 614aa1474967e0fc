use Rattle.std.proofs.Common.{◌≡◌, length, ◌∙◌, ap, arith}
use Rattle.std.proofs.lemmas.List.Sorted.{IsPermutation-map, length_permutation}
use Rattle.smol_plan.specs.Entries.{entry_of}
use Rattle.smol_plan.proofs.EntryLemmas.{IsRising-from_sorted}
use Rattle.smol_plan.proofs.PlanLemmas.{written_back}
use Rattle.smol_plan.proofs.entries.Entries.sort.Goals as goal

pub returns-then-len-le-SHORT-clause-permutation :
    goal.returns-then-len-le-SHORT-clause-permutation
returns-then-len-le-SHORT-clause-permutation g c =
    rw (← c.self.view_is) (IsPermutation-map entry_of _ _ c.sort_unstable.ensures.permutation)

pub returns-then-len-le-SHORT-clause-rising : goal.returns-then-len-le-SHORT-clause-rising
returns-then-len-le-SHORT-clause-rising g c =
    IsRising-from_sorted c.sort_unstable.new.self.items c.sort_unstable.ensures.sorted

pub returns-else-len-le-SHORT-clause-permutation :
    goal.returns-else-len-le-SHORT-clause-permutation
returns-else-len-le-SHORT-clause-permutation g c =
    let old = c.self.inside.numbers in
    let new = c.par_sort_unstable.new.s in
    let moved = rw c.deref_mut.ensures.value at c.par_sort_unstable.ensures.permutation in
    let long : length new ≡ length old.items = length_permutation _ new c.par_sort_unstable.ensures.permutation ∙ ap length c.deref_mut.ensures.value in
    rw (← c.self.view_is, written_back new old.items old.len long (omega (arith, old.ok.0))) (IsPermutation-map entry_of _ _ moved)

pub returns-else-len-le-SHORT-clause-rising : goal.returns-else-len-le-SHORT-clause-rising
returns-else-len-le-SHORT-clause-rising g c =
    let old = c.self.inside.numbers in
    let new = c.par_sort_unstable.new.s in
    let long : length new ≡ length old.items = length_permutation _ new c.par_sort_unstable.ensures.permutation ∙ ap length c.deref_mut.ensures.value in
    rw (written_back new old.items old.len long (omega (arith, old.ok.0))) (IsRising-from_sorted new c.par_sort_unstable.ensures.sorted)
