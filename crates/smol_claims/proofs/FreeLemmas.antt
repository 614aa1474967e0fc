-- The pairs of a slice that have no link, as they are gathered one after the other.
use Rattle.std.proofs.Common.{◌≡◌, ℕ, ◌+◌, ◌*◌, ◌/◌, ◌<◌, ◌≤◌, min, Bool, true, false, ◌&&◌, ◌||◌, ◌==◌, nat_lt, List, [], ◌∷◌, ◌++◌, refl, sym, ◌∙◌, ap, ⊎_elim, arith, if◌then◌else◌}
use Rattle.std.proofs.lemmas.Bool.{cases_eq, cases_lt, lt-ltb, le-ltb, eq-eqb, ne_eqb, eqb-true, ltb-true, and_parts, and_from, or_left, or_right, false_from_ne_true}
use Rattle.smol_plan.specs.declared.pair.Pair.{Pair}
use Rattle.smol_plan.specs.Machine.{slice_of, has_no_link}
use Rattle.smol_claims.specs.View.{has, times, free_below}
use Rattle.smol_claims.proofs.ListLemmas.{has-append, has-free_below, times-append, times-none}

module _ (pairs : List Pair) (slice : ℕ) where
  -- none is below the first of the slice
  pub free_none : (j : ℕ) → has (free_below pairs slice (64 * slice)) j ≡ false
  free_none j = has-free_below pairs slice (64 * slice) j ∙ false_from_ne_true _ none
    where
      none : (nat_lt j (64 * slice) && ((slice_of j == slice) && has_no_link pairs j)) ≡ true → ⊥
      none e =
          let a = and_parts (nat_lt j (64 * slice)) ((slice_of j == slice) && has_no_link pairs j) e in
          let b = and_parts (slice_of j == slice) (has_no_link pairs j) a.1 in
          let below : j < 64 * slice = ltb-true _ _ a.0 in
          let is : j / 64 ≡ slice = eqb-true _ _ b.0 in
          omega arith

  -- past the end of the slice, or of the list, there is no other
  pub free_all : (n j : ℕ) → has (free_below pairs slice (min (64 * slice + 64) n)) j ≡ has (free_below pairs slice n) j
  free_all n j =
      has-free_below pairs slice (min (64 * slice + 64) n) j ∙ go ((slice_of j == slice) && has_no_link pairs j) refl ∙ sym (has-free_below pairs slice n j)
    where
      pad : (a b : Bool) → (a && false) ≡ (b && false)
      pad true true = refl
      pad true false = refl
      pad false true = refl
      pad false false = refl

      go : (b : Bool) → ((slice_of j == slice) && has_no_link pairs j) ≡ b → (nat_lt j (min (64 * slice + 64) n) && b) ≡ (nat_lt j n && b)
      go true e =
          let is : j / 64 ≡ slice = eqb-true _ _ (and_parts (slice_of j == slice) (has_no_link pairs j) e).0 in
          ⊎_elim
          (λ (l : j < n). let m : j < min (64 * slice + 64) n = omega arith in rw (lt-ltb _ _ l, lt-ltb _ _ m) refl)
          (λ (l : n ≤ j). let m : min (64 * slice + 64) n ≤ j = omega arith in rw (le-ltb _ _ l, le-ltb _ _ m) refl)
          (cases_lt j n)
      go false e = pad (nat_lt j (min (64 * slice + 64) n)) (nat_lt j n)

  -- a pair of the slice without a link is one more
  pub free_more : (stack : List ℕ) (p : ℕ) → slice_of p ≡ slice → has_no_link pairs p ≡ true → ((j : ℕ) → has stack j ≡ has (free_below pairs slice p) j) → (j : ℕ) → has (stack ++ p ∷ []) j ≡ has (free_below pairs slice (p + 1)) j
  free_more stack p is unlinked same j =
      has-append stack (p ∷ []) j ∙ ap (λ b. b || ((j == p) || false)) (same j ∙ has-free_below pairs slice p j) ∙ at ∙ sym (has-free_below pairs slice (p + 1) j)
    where
      at : ((nat_lt j p && ((slice_of j == slice) && has_no_link pairs j)) || ((j == p) || false)) ≡ (nat_lt j (p + 1) && ((slice_of j == slice) && has_no_link pairs j))
      at = ⊎_elim
          (λ (e : j ≡ p). or_right _ _ (or_left _ false (eq-eqb j p e)) ∙ sym (and_from _ _ (lt-ltb j (p + 1) (omega arith)) (and_from _ _ (eq-eqb _ _ (ap slice_of e ∙ is)) (ap (has_no_link pairs) e ∙ unlinked))))
          (λ (n : j ≡ p → ⊥). rw (ne_eqb j p n) (other n ((slice_of j == slice) && has_no_link pairs j)))
          (cases_eq j p)
        where
          or-false : (b : Bool) → (b || (false || false)) ≡ b
          or-false true = refl
          or-false false = refl

          other : (j ≡ p → ⊥) → (b : Bool) → ((nat_lt j p && b) || (false || false)) ≡ (nat_lt j (p + 1) && b)
          other n b = or-false (nat_lt j p && b) ∙ ⊎_elim
              (λ (l : j < p). let m : j < p + 1 = omega arith in rw (lt-ltb _ _ l, lt-ltb _ _ m) refl)
              (λ (l : p ≤ j). let m : p + 1 ≤ j = omega arith in rw (le-ltb _ _ l, le-ltb _ _ m) refl)
              (cases_lt j p)

  -- one with a link is not
  pub free_same : (stack : List ℕ) (p : ℕ) → has_no_link pairs p ≡ false → ((j : ℕ) → has stack j ≡ has (free_below pairs slice p) j) → (j : ℕ) → has stack j ≡ has (free_below pairs slice (p + 1)) j
  free_same stack p linked same j =
      same j ∙ has-free_below pairs slice p j ∙ at ∙ sym (has-free_below pairs slice (p + 1) j)
    where
      none : (b c : Bool) → b ≡ false → (nat_lt j p && (c && b)) ≡ (nat_lt j (p + 1) && (c && b))
      none b c e = rw e (pad (nat_lt j p) (nat_lt j (p + 1)) c)
        where
          pad : (x y z : Bool) → (x && (z && false)) ≡ (y && (z && false))
          pad true true z = refl
          pad true false true = refl
          pad true false false = refl
          pad false true true = refl
          pad false true false = refl
          pad false false z = refl

      at : (nat_lt j p && ((slice_of j == slice) && has_no_link pairs j)) ≡ (nat_lt j (p + 1) && ((slice_of j == slice) && has_no_link pairs j))
      at = ⊎_elim
          (λ (e : j ≡ p). none (has_no_link pairs j) (slice_of j == slice) (ap (has_no_link pairs) e ∙ linked))
          (λ (n : j ≡ p → ⊥). ⊎_elim
          (λ (l : j < p). let m : j < p + 1 = omega arith in rw (lt-ltb _ _ l, lt-ltb _ _ m) refl)
          (λ (l : p ≤ j). let m : p + 1 ≤ j = omega arith in rw (le-ltb _ _ l, le-ltb _ _ m) refl)
          (cases_lt j p))
          (cases_eq j p)

  -- each is gathered once
  pub free_once : (stack : List ℕ) (p : ℕ) → ((j : ℕ) → has stack j ≡ has (free_below pairs slice p) j) → ((j : ℕ) → times stack j ≤ 1) → (j : ℕ) → times (stack ++ p ∷ []) j ≤ 1
  free_once stack p same once j = ⊎_elim
      (λ (e : j ≡ p). omega (arith, times-append stack (p ∷ []) j, times-none stack j (new e), one))
      (λ (n : j ≡ p → ⊥). omega (arith, times-append stack (p ∷ []) j, once j, zero n))
      (cases_eq j p)
    where
      new : j ≡ p → has stack j ≡ false
      new e = same j ∙ has-free_below pairs slice p j ∙ rw (le-ltb j p (omega arith)) refl

      one : times (p ∷ []) j ≤ 1
      one = go (j == p)
        where
          go : (b : Bool) → (if b then 1 else 0) + 0 ≤ 1
          go true = omega arith
          go false = omega arith

      zero : (j ≡ p → ⊥) → times (p ∷ []) j ≡ 0
      zero n = rw (ne_eqb j p n) (omega arith)
