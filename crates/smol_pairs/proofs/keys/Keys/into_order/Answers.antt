use Rattle.std.proofs.Common.{◌≡◌, ◌<◌, ◌^◌, List, map, All, sym, ap, subst, ◌∙◌}
use Rattle.std.specs.Prelude.{Contains}
use Rattle.std.specs.List.Sorted.{IsStrictlyIncreasing}
use Rattle.std.proofs.lemmas.List.Elements.{All-contains, All-weaker}
use Rattle.std.proofs.lemmas.Result.{IfOk-weaker}
use Rattle.smol_pairs.specs.declared.encounter.Encounter.{Encounter}
use Rattle.smol_pairs.specs.Keys.{HaveSame, key_of, ranks_at}
use Rattle.smol_pairs.proofs.KeysFound.{mapped_members, numbers_back}
use Rattle.smol_pairs.proofs.keys.Keys.into_order.Goals as goal

pub encounters_at-requires : goal.encounters_at-requires
encounters_at-requires c =
    let old = c.self.inside.numbers.items in
    subst (All (λ number. number < 2 ^ 50)) (sym c.deref.ensures.value)
    (All-weaker (Contains old) (λ number. number < 2 ^ 50) (λ number has. All-contains (λ number. number < 2 ^ 50) old number c.self.invariant has)
    c.sort_numbers.new.numbers.items c.sort_numbers.ensures.same.old)

pub returns-clause-rising : goal.returns-clause-rising
returns-clause-rising c =
    let new = c.sort_numbers.new.numbers.items in
    IfOk-weaker c.encounters_at.result (λ found. found.items ≡ map ranks_at c.deref.result.now) (λ found. IsStrictlyIncreasing (map key_of found.items))
    (λ found is. subst IsStrictlyIncreasing (sym (ap (map key_of) (is ∙ ap (map ranks_at) c.deref.ensures.value) ∙ numbers_back new)) c.sort_numbers.ensures.rising)
    c.encounters_at.ensures

pub returns-clause-same : goal.returns-clause-same
returns-clause-same c =
    let old = c.self.inside.numbers.items in
    let new = c.sort_numbers.new.numbers.items in
    IfOk-weaker c.encounters_at.result (λ found. found.items ≡ map ranks_at c.deref.result.now) (λ found. HaveSame c.args.self found.items)
    (λ found is. subst (λ (es : List Encounter). HaveSame es found.items) c.self.view_is
    (subst (λ (es : List Encounter). HaveSame (map ranks_at old) es) (sym (is ∙ ap (map ranks_at) c.deref.ensures.value))
    (record { kept = mapped_members ranks_at old new c.sort_numbers.ensures.same.kept; old = mapped_members ranks_at new old c.sort_numbers.ensures.same.old })))
    c.encounters_at.ensures
