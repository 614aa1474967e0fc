-- What stands in the list of views, and what is spelled, where the view of one seat changes.
use Rattle.std.proofs.Common.{◌≡◌, ℕ, zero, suc, ◌<◌, ◌≤◌, true, not, ◌&&◌, subst, List, [], ◌∷◌, length, get_or, set, get_or-set_same, get_or-set_other, sum_by, refl, sym, ◌∙◌, ap, ⊎_elim, arith}
use Rattle.std.specs.Option.{is_some}
use Rattle.std.proofs.lemmas.List.{get_or_past}
use Rattle.std.proofs.lemmas.List.Sums.{sum_by-set}
use Rattle.std.proofs.lemmas.Bool.{cases_eq, cases_lt}
use mathlib.Core.Option as maybe
use lib.ListN.{get_elem?}
use Rattle.atomic_table.proofs.Lists.{at_set}
use Rattle.smol_plan.specs.declared.pair.Pair.{Pair}
use Rattle.smol_plan.specs.declared.pair.Side.{Side}
use Rattle.smol_plan.specs.Links.{source_of}
use Rattle.smol_plan.proofs.BelowLemmas.{any_below_same, any_below_gap}
use Rattle.smol_plan.proofs.StateLemmas.{State-same}
use Rattle.smol_claims.specs.declared.view.View.{View}
use Rattle.smol_claims.specs.View.{has, has_link, spent, view_at}
use Rattle.smol_claims.specs.Spelled.{is_taken_in, fired_in, is_decided_in, is_owed, spelled}
use Rattle.smol_claims.specs.Rule.{IsTrueView, IsOfSome}

module _ {A : Type 0} where
  -- an element at a place has a place in the list
  pub seat_inside : (l : List A) (i : ℕ) (a : A) → get_elem? l i ≡ maybe.some a → i < length l
  seat_inside [] i a e = absurd (maybe.some-ne-none a (sym e))
  seat_inside (x ∷ xs) zero a e = omega arith
  seat_inside (x ∷ xs) (suc i) a e = let h = seat_inside xs i a e in omega arith

  -- both ways to read a list agree
  pub seat_view : (l : List A) (i : ℕ) (a d : A) → get_elem? l i ≡ maybe.some a → get_or l i d ≡ a
  seat_view [] i a d e = absurd (maybe.some-ne-none a (sym e))
  seat_view (x ∷ xs) zero a d e = maybe.some-injective x a e
  seat_view (x ∷ xs) (suc i) a d e = seat_view xs i a d e

-- there are no seats past the end
pub view_at-past : (views : List View) (k : ℕ) → length views ≤ k → view_at views k ≡ spent
view_at-past views k l = get_or_past views k spent l

-- whether a link is owed goes by what each seat owes
pub is_owed-same : (views next : List View) (j : ℕ) (t : Side) → ((k : ℕ) → has_link (view_at next k).owed j t ≡ has_link (view_at views k).owed j t) → is_owed next j t ≡ is_owed views j t
is_owed-same views next j t same =
    any_below_same _ (λ k. has_link (view_at views k).owed j t) (length next) (λ k _. same k) ∙ ⊎_elim
    (λ (l : length views < length next). sym (any_below_gap (λ k. has_link (view_at views k).owed j t) (length views) (length next) (omega arith) (λ k a b. ap (λ (x : View). has_link x.owed j t) (view_at-past views k a))))
    (λ (l : length next ≤ length views). any_below_gap (λ k. has_link (view_at views k).owed j t) (length next) (length views) l (λ k a b. sym (same k) ∙ ap (λ (x : View). has_link x.owed j t) (view_at-past next k a)))
    (cases_lt (length views) (length next))

-- where each seat holds and owes what it did, the same state is spelled
pub spelled-same : (pairs : List Pair) (words : List ℕ) (views next : List View) → ((k j : ℕ) → has (view_at next k).held j ≡ has (view_at views k).held j) → ((k j : ℕ) (t : Side) → has_link (view_at next k).owed j t ≡ has_link (view_at views k).owed j t) → spelled pairs words next ≡ spelled pairs words views
spelled-same pairs words views next holds owes =
    State-same (spelled pairs words next) (spelled pairs words views) (λ k. refl) (λ k. refl) (λ j t. ap (λ b. is_decided_in pairs words (source_of pairs j t) && not b) (is_owed-same views next j t (λ k. owes k j t))) holds owes

-- what a view says is so later too
pub IsTrueView-later : (pairs : List Pair) (workers : ℕ) (words next : List ℕ) (v : View) → ((slice : ℕ) → is_taken_in pairs words slice ≡ true → is_taken_in pairs next slice ≡ true) → ((j : ℕ) → is_some (fired_in pairs words j) ≡ true → is_some (fired_in pairs next j) ≡ true) → IsTrueView pairs workers words v → IsTrueView pairs workers next v
IsTrueView-later pairs workers words next v taken decided h =
    record {
      plan = h.plan;
      of = h.of;
      seen = λ slice l. taken slice (h.seen slice l);
      mine = λ j e. decided j (h.mine j e);
      last = h.last;
      spent = h.spent;
    }

-- the view v of the seat id becomes w
module _ (views : List View) (id : ℕ) (v w : View) (at : get_elem? views id ≡ maybe.some v) where
  pub view_is : view_at views id ≡ v
  view_is = seat_view views id v spent at

  pub new_view : view_at (set views id w) id ≡ w
  new_view = get_or-set_same views id w spent (seat_inside views id v at)

  pub other_view : (k : ℕ) → (k ≡ id → ⊥) → view_at (set views id w) k ≡ view_at views k
  other_view k h = get_or-set_other views id k w spent h

  -- a part of each view
  pub each_view : {A : Type 0} (f : View → A) (r : ℕ → A) → f w ≡ r id → ((k : ℕ) → (k ≡ id → ⊥) → f (view_at views k) ≡ r k) → (k : ℕ) → f (view_at (set views id w) k) ≡ r k
  each_view f r here elsewhere k = ⊎_elim
      (λ (e : k ≡ id). ap (λ i. f (view_at (set views id w) i)) e ∙ ap f new_view ∙ here ∙ ap r (sym e))
      (λ (h : k ≡ id → ⊥). ap f (other_view k h) ∙ elsewhere k h)
      (cases_eq k id)

  -- a part that is the same of both stays so at each seat
  pub same_part : {A : Type 0} (f : View → A) → f w ≡ f v → (k : ℕ) → f (view_at (set views id w) k) ≡ f (view_at views k)
  same_part f e = each_view f (λ k. f (view_at views k)) (e ∙ ap f (sym view_is)) (λ k h. refl)

  -- a fact of each view
  pub each_seat : (P : View → Type 0) → ((k : ℕ) (u : View) → get_elem? views k ≡ maybe.some u → P u) → P w → (k : ℕ) (u : View) → get_elem? (set views id w) k ≡ maybe.some u → P u
  each_seat P all own k u e = ⊎_elim
      (λ (t : (k ≡ id) × (w ≡ u)). subst P t.1 own)
      (λ (t : (k ≡ id → ⊥) × (get_elem? views k ≡ maybe.some u)). all k u t.1)
      (at_set views id k w u e)

  -- the shares add up as before
  pub shares-same : w.share ≡ v.share → sum_by (λ (u : View). u.share) (set views id w) ≡ sum_by (λ (u : View). u.share) views
  shares-same e =
      let sums = sum_by-set (λ (u : View). u.share) views id w spent (seat_inside views id v at) in
      let was : (view_at views id).share ≡ v.share = ap (λ (u : View). u.share) view_is in
      omega arith

  -- a decided pair is still of some seat
  pub IsOfSome-set : (j : ℕ) → (has v.mine j ≡ true → has w.mine j ≡ true) → IsOfSome views j → IsOfSome (set views id w) j
  IsOfSome-set j keeps h = ⊎_elim
      (λ (e : h.0 ≡ id). (id, ap (λ (u : View). has u.mine j) new_view ∙ keeps (ap (λ (u : View). has u.mine j) (sym view_is) ∙ ap (λ i. has (view_at views i).mine j) (sym e) ∙ h.1)))
      (λ (n : h.0 ≡ id → ⊥). (h.0, ap (λ (u : View). has u.mine j) (other_view h.0 n) ∙ h.1))
      (cases_eq h.0 id)
