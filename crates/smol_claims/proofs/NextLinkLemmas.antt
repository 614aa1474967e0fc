-- What is owed after the link that is next on a molecule is told.
use Rattle.std.proofs.Common.{◌≡◌, ℕ, ◌<◌, Bool, true, false, not, ◌&&◌, ◌||◌, List, [], length, Option, Some, ◌⊎◌, refl, sym, ◌∙◌, ap, subst, inl, inr, ⊎_elim}
use Rattle.std.proofs.lemmas.Bool.{cases_Bool, and_parts, and_from, eqb-true, eq-eqb, false_from_ne_true, both_ways}
use Rattle.smol_plan.specs.declared.pair.Pair.{Pair}
use Rattle.smol_plan.specs.declared.pair.Side.{Side}
use Rattle.smol_plan.specs.declared.pair.Side.TheVariants.{Low, High}
use Rattle.smol_plan.specs.Pair.{molecule_at, IsOrdered}
use Rattle.smol_plan.specs.Links.{source_of, comes_from, comes_by}
use Rattle.smol_plan.proofs.SideLemmas.{is_side-true, one_side}
use Rattle.smol_plan.proofs.LinkLemmas.{source_tells}
use Rattle.smol_plan.proofs.GoodLemmas.{on_a_side}
use Rattle.smol_plan.proofs.GoodKept.{is_number_from}
use Rattle.smol_plan.proofs.NextLemmas.{comes_by_next, comes_by_only}
use Rattle.smol_claims.specs.declared.view.Link.{Link}
use Rattle.smol_claims.specs.declared.view.View.{View}
use Rattle.smol_claims.specs.View.{is_link_of, has_link, links_from, view_telling}
use Rattle.smol_claims.specs.Plays.{Decides}
use Rattle.smol_claims.specs.Hand.{OnlyLooks}
use Rattle.smol_claims.proofs.ListLemmas.{has_link-append, has_link-without, has_link-links_from, is_link_of-self}

module _ (pairs : List Pair) (pair : ℕ) (side : Side) (next : ℕ) (next_side : Side) (on_side : molecule_at pairs next next_side ≡ molecule_at pairs pair side) (undone : source_of pairs next next_side ≡ Some pair) (undoes : (k : ℕ) (s : Side) → molecule_at pairs k s ≡ molecule_at pairs pair side → source_of pairs k s ≡ Some pair → ◌≡◌ {A = Option (ℕ × Side)} (Some (next, next_side)) (Some (k, s))) where
  abbrev link : Link
  link = record { pair = next; side = next_side }

  comes_by_is : (k : ℕ) (t : Side) → is_link_of link k t ≡ comes_by pairs pair side k t
  comes_by_is k t = ⊎_elim
      (λ (e : comes_by pairs pair side k t ≡ true). subst (λ (z : ℕ × Side). is_link_of link z.0 z.1 ≡ true) (comes_by_only pairs pair side next next_side on_side undone undoes k t e) (is_link_of-self link) ∙ sym e)
      (λ (e : comes_by pairs pair side k t ≡ false). false_from_ne_true _ (λ h. both_ways _ e (same h)) ∙ sym e)
      (cases_Bool (comes_by pairs pair side k t))
    where
      same : is_link_of link k t ≡ true → comes_by pairs pair side k t ≡ true
      same h =
          let p = and_parts _ _ h in
          let pair_is : k ≡ next = eqb-true _ _ p.0 in
          let side_is : t ≡ next_side = is_side-true t next_side p.1 in
          ap (λ (z : ℕ × Side). comes_by pairs pair side z.0 z.1) (λ i. (pair_is i, side_is i)) ∙ comes_by_next pairs pair side next next_side on_side undone undoes

  -- the link that was told is owed no longer, and the others as before
  pub owed_after : (v w : View) (b : Bool) → w ≡ view_telling v (record { pair = next; side = next_side }) b → (k : ℕ) (t : Side) → has_link w.owed k t ≡ (not (comes_by pairs pair side k t) && has_link v.owed k t)
  owed_after v w b e k t =
      ap (λ (u : View). has_link u.owed k t) e ∙ has_link-without v.owed link k t ∙ ap (λ x. not x && has_link v.owed k t) (comes_by_is k t)

or-false : (b : Bool) → (b || false) ≡ b
or-false true = refl
or-false false = refl

-- after a decision just the links are owed that come from the pair, where none was owed before
pub owed_decided : (v u w : View) (j : ℕ) → v.owed ≡ [] → OnlyLooks v u → Decides u j w → (k : ℕ) (t : Side) → has_link w.owed k t ≡ comes_from v.pairs j k t
owed_decided v u w j none looks d k t =
    ap (λ (x : View). has_link x.owed k t) d.view ∙ has_link-append (links_from u.pairs j) u.owed k t ∙ ap (λ l. has_link (links_from u.pairs j) k t || has_link l k t) (looks.owed ∙ none) ∙ or-false (has_link (links_from u.pairs j) k t) ∙ has_link-links_from u.pairs j k t ∙ ap (λ ps. comes_from ps j k t) looks.pairs

-- a link comes from a pair by one molecule
pub comes_by_low : (pairs : List Pair) → IsOrdered pairs → (j k : ℕ) (t : Side) → j < length pairs → comes_by pairs j High k t ≡ true → comes_by pairs j Low k t ≡ false
comes_by_low pairs ordered j k t l e =
    let high : molecule_at pairs k t ≡ molecule_at pairs j High = eqb-true _ _ (and_parts _ _ e).1 in
    false_from_ne_true (comes_by pairs j Low k t) (λ h. differ (eqb-true _ _ (and_parts _ _ h).1) high)
  where
    differ : molecule_at pairs k t ≡ molecule_at pairs j Low → molecule_at pairs k t ≡ molecule_at pairs j High → ⊥
    differ low high =
        let wrong : Low ≡ High = one_side pairs ordered j Low High l (sym low ∙ high) in
        cc

-- and by one of the two
comes_by_some : (pairs : List Pair) (j k : ℕ) (t : Side) → comes_from pairs j k t ≡ true → (comes_by pairs j Low k t ≡ true) ⊎ (comes_by pairs j High k t ≡ true)
comes_by_some pairs j k t e =
    go (on_a_side pairs (molecule_at pairs k t) j (source_tells pairs k t j (is_number_from j (source_of pairs k t) e)).has)
  where
    go : (side : Side) × (molecule_at pairs j side ≡ molecule_at pairs k t) → (comes_by pairs j Low k t ≡ true) ⊎ (comes_by pairs j High k t ≡ true)
    go (Low, h) = inl (and_from _ _ e (eq-eqb _ _ (sym h)))
    go (High, h) = inr (and_from _ _ e (eq-eqb _ _ (sym h)))

-- so nothing is owed once both are told
pub both_told : (pairs : List Pair) (j k : ℕ) (t : Side) → (not (comes_by pairs j High k t) && (not (comes_by pairs j Low k t) && comes_from pairs j k t)) ≡ false
both_told pairs j k t = go (comes_from pairs j k t) refl
  where
    none : (a b : Bool) → (not a && (not b && false)) ≡ false
    none true b = refl
    none false true = refl
    none false false = refl

    gone : (b : Bool) → (not b && (false && true)) ≡ false
    gone true = refl
    gone false = refl

    go : (b : Bool) → comes_from pairs j k t ≡ b → (not (comes_by pairs j High k t) && (not (comes_by pairs j Low k t) && b)) ≡ false
    go true e = ⊎_elim
        (λ (h : comes_by pairs j Low k t ≡ true). rw h (gone (comes_by pairs j High k t)))
        (λ (h : comes_by pairs j High k t ≡ true). rw h refl)
        (comes_by_some pairs j k t e)
    go false e = none (comes_by pairs j High k t) (comes_by pairs j Low k t)
