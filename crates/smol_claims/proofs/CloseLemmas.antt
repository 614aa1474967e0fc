-- Where one seat has the whole share, holds and owes nothing and has seen every slice taken, the words say what serial
-- matching decides of every pair.
use Rattle.std.proofs.Common.{◌≡◌, ℕ, zero, suc, ◌<◌, ◌≤◌, false, List, [], ◌∷◌, length, get_or, set, sum_by, Some, refl, sym, ◌∙◌, ap, subst, ⊎_elim, arith}
use Rattle.std.proofs.lemmas.List.Sums.{sum_by-set, sum_by-cons}
use Rattle.std.proofs.lemmas.Bool.{cases_eq, cases_lt}
use mathlib.Core.Option as maybe
use lib.ListN.{get_elem?}
use Rattle.atomic_table.proofs.Lists.{set_else}
use Rattle.smol_plan.specs.declared.pair.Pair.{Pair}
use Rattle.smol_plan.specs.Machine.{slice_count}
use Rattle.smol_plan.specs.Law.{IsFinished}
use Rattle.smol_plan.proofs.ProgressLemmas.{AllDecided-from_finished}
use Rattle.smol_claims.specs.declared.view.View.{View}
use Rattle.smol_claims.specs.View.{has, has_link, spent, view_at}
use Rattle.smol_claims.specs.Layout.{decision_at}
use Rattle.smol_claims.specs.Code.{decision_in, serial_decision}
use Rattle.smol_claims.specs.Spelled.{spelled}
use Rattle.smol_claims.specs.Rule.{WordsAndViews, IsEmpty, KeepsRule}
use Rattle.smol_claims.proofs.CodeLemmas.{decision_in-serial, not_zero}
use Rattle.smol_claims.proofs.SeatLemmas.{seat_inside, seat_view, view_at-past}

-- an element that there is
some_at : (l : List View) (i : ℕ) (d : View) → i < length l → get_elem? l i ≡ maybe.some (get_or l i d)
some_at [] i d h = absurd (omega arith)
some_at (x ∷ xs) zero d h = refl
some_at (x ∷ xs) (suc i) d h = some_at xs i d (omega arith)

-- where a sum is 0 each part is
none_of_sum : (f : View → ℕ) (l : List View) (i : ℕ) (u : View) → sum_by f l ≡ 0 → get_elem? l i ≡ maybe.some u → f u ≡ 0
none_of_sum f [] i u e at = absurd (maybe.some-ne-none u (sym at))
none_of_sum f (x ∷ xs) zero u e at = let same : x ≡ u = maybe.some-injective x u at in omega (arith, e, sum_by-cons f x xs, ap f same)
none_of_sum f (x ∷ xs) (suc i) u e at = none_of_sum f xs i u (omega (arith, e, sum_by-cons f x xs)) at

module _ (pairs : List Pair) (workers : ℕ) (s : WordsAndViews) (r : KeepsRule pairs workers s) (id : ℕ) (v : View) (at : get_elem? s.views id ≡ maybe.some v) (whole : v.share ≡ workers) (none_held : v.held ≡ []) (none_owed : v.owed ≡ []) (seen : v.seen ≡ slice_count pairs) where
  -- every other seat is spent
  others_spent : (k : ℕ) (u : View) → (k ≡ id → ⊥) → get_elem? s.views k ≡ maybe.some u → u.share ≡ 0
  others_spent k u n e =
      let sums = sum_by-set (λ (x : View). x.share) s.views id spent spent (seat_inside s.views id v at) in
      let was : (view_at s.views id).share ≡ v.share = ap (λ (x : View). x.share) (seat_view s.views id v spent at) in
      let rest : sum_by (λ (x : View). x.share) (set s.views id spent) ≡ 0 = omega (arith, sums, was, whole, r.shares) in
      none_of_sum (λ x. x.share) (set s.views id spent) k u rest (set_else s.views id k spent n ∙ e)

  -- so no seat holds or owes anything
  empty_at : (P : View → Type 0) → P v → P spent → ((u : View) → IsEmpty u → P u) → (k : ℕ) → P (view_at s.views k)
  empty_at P here nothing other k = ⊎_elim
      (λ (e : k ≡ id). subst P (sym (ap (view_at s.views) e ∙ seat_view s.views id v spent at)) here)
      (λ (n : k ≡ id → ⊥). ⊎_elim
      (λ (l : k < length s.views).
      let there = some_at s.views k spent l in
      other (view_at s.views k) ((r.views k (view_at s.views k) there).spent (others_spent k (view_at s.views k) n there)))
      (λ (l : length s.views ≤ k). subst P (sym (view_at-past s.views k l)) nothing)
      (cases_lt k (length s.views)))
      (cases_eq k id)

  finished : IsFinished pairs (spelled pairs s.words s.views)
  finished =
      record {
        taken = λ k l. (r.views id v at).seen k (omega (arith, l, seen));
        none_held = λ w j. empty_at (λ u. has u.held j ≡ false) (ap (λ l. has l j) none_held) refl (λ u e. ap (λ l. has l j) e.held) w;
        none_owed = λ w j t. empty_at (λ u. has_link u.owed j t ≡ false) (ap (λ l. has_link l j t) none_owed) refl (λ u e. ap (λ l. has_link l j t) e.owed) w;
      }

  pub closes : (j : ℕ) → j < length pairs → decision_in (get_or s.words (decision_at pairs j) 0) ≡ Some (serial_decision pairs j)
  closes j l =
      decision_in-serial pairs j (get_or s.words (decision_at pairs j) 0) (r.codes j l) (not_zero (get_or s.words (decision_at pairs j) 0) (AllDecided-from_finished pairs (spelled pairs s.words s.views) r.good finished j l))
