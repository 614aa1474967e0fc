use Rattle.std.proofs.Common.{◌≡◌, List, ℕ, sym, subst}
use Rattle.std.specs.Prelude.{Contains}
use lib.Dec.{eqb}
use Rattle.std.specs.List.{dedup}
use Rattle.std.proofs.lemmas.List.Elements.{All-weaker, All-contains_itself}
use Rattle.std.proofs.lemmas.List.Filters.{dedup_is}
use Rattle.std.proofs.lemmas.List.Kept.{Contains-dedup_nat, Contains-from_dedup}
use Rattle.std.proofs.lemmas.List.Sorted.{Contains-permutation, IsPermutation-sym}
use Rattle.std.proofs.lemmas.Map.Keys.{IsStrictlyIncreasing-dedup}
use Rattle.smol_pairs.proofs.keys.sort_numbers.Goals as goal

pub returns-clause-rising : goal.returns-clause-rising
returns-clause-rising c =
    let is = dedup_is _ _ _ c.dedup.ensures.filtered in
    rw is (IsStrictlyIncreasing-dedup _ c.sort_unstable.ensures.sorted)

pub returns-clause-same : goal.returns-clause-same
returns-clause-same c =
    let old = c.args.numbers.now.items in
    let sorted = c.sort_unstable.new.self.items in
    let new = c.dedup.new.self.items in
    let is : new ≡ dedup eqb sorted = dedup_is _ _ _ c.dedup.ensures.filtered in
    let moved = c.sort_unstable.ensures.permutation in
    record {
      kept = All-weaker (Contains old) (Contains new)
          (λ x has. subst (λ (xs : List ℕ). Contains xs x) (sym is) (Contains-dedup_nat sorted x (Contains-permutation old sorted x moved has))) old (All-contains_itself old);
      old = All-weaker (Contains new) (Contains old)
          (λ x has. Contains-permutation sorted old x (IsPermutation-sym old sorted moved) (Contains-from_dedup eqb sorted x (subst (λ (xs : List ℕ). Contains xs x) is has))) new (All-contains_itself new);
    }
