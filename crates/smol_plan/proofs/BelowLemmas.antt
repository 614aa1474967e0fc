-- Searches and tests over the numbers below a bound.
use Rattle.std.proofs.Common.{◌≡◌, ℕ, zero, suc, ◌<◌, ◌≤◌, Bool, true, false, ◌||◌, Some, None, ◌⊎◌, refl, ◌∙◌, ap, inl, inr, ⊎_elim, arith}
use Rattle.std.proofs.lemmas.Bool.{cases_Bool, cases_eq, cases_order, or_cases, or_parts, false≢true, both_ways}
use Rattle.smol_plan.specs.Links.{last_below, any_below}

-- what a search for the last number below n gives where it finds one
pub record FindsLast (p : ℕ → Bool) (n i : ℕ) : Type 0 where
  pub is : last_below p n ≡ Some i
  pub below : i < n
  pub passes : p i ≡ true
  pub none_above : (k : ℕ) → i < k → k < n → p k ≡ false

-- what it gives where there is none
pub record FindsNone (p : ℕ → Bool) (n : ℕ) : Type 0 where
  pub is : last_below p n ≡ None
  pub none : (k : ℕ) → k < n → p k ≡ false

last_below_step : (p : ℕ → Bool) (n : ℕ) (b : Bool) → p n ≡ b → FindsNone p n ⊎ ((i : ℕ) × FindsLast p n i) → FindsNone p (suc n) ⊎ ((i : ℕ) × FindsLast p (suc n) i)
unfolding last_below
last_below_step p n true e h =
    inr (n, record { is = rw e refl; below = omega arith; passes = e; none_above = λ k a b. absurd (omega arith) })
last_below_step p n false e (inl h) =
    inl record { is = rw e h.is; none = λ k l. ⊎_elim (λ (q : k ≡ n). rw q e) (λ q. ⊎_elim (λ (r : k < n). h.none k r) (λ r. absurd (omega arith)) q) (cases_order k n) }
last_below_step p n false e (inr h) =
    inr (h.0, record { is = rw e h.1.is; below = omega (arith, h.1.below); passes = h.1.passes; none_above = λ k a l. ⊎_elim (λ (q : k ≡ n). rw q e) (λ q. ⊎_elim (λ (r : k < n). h.1.none_above k a r) (λ r. absurd (omega arith)) q) (cases_order k n) })

pub last_below_cases : (p : ℕ → Bool) (n : ℕ) → FindsNone p n ⊎ ((i : ℕ) × FindsLast p n i)
unfolding last_below
last_below_cases p zero = inl record { is = refl; none = λ k l. absurd (omega arith) }
last_below_cases p (suc n) = last_below_step p n (p n) refl (last_below_cases p n)

-- tests that agree below n find alike
pub last_below_same : (p q : ℕ → Bool) (n : ℕ) → ((k : ℕ) → k < n → p k ≡ q k) → last_below p n ≡ last_below q n
unfolding last_below
last_below_same p q zero h = refl
last_below_same p q (suc n) h =
    rw (h n (omega arith), last_below_same p q n (λ k l. h k (omega arith))) refl

-- the last one is what the search finds
pub last_below_is : (p : ℕ → Bool) (n i : ℕ) → i < n → p i ≡ true → ((k : ℕ) → i < k → k < n → p k ≡ false) → last_below p n ≡ Some i
last_below_is p n i l e none = ⊎_elim
    (λ (h : FindsNone p n). absurd (both_ways (p i) (h.none i l) e))
    (λ (h : (j : ℕ) × FindsLast p n j). ⊎_elim
    (λ (q : h.0 ≡ i). rw (← q) h.1.is)
    (λ q. ⊎_elim
    (λ (r : h.0 < i). absurd (both_ways (p i) (h.1.none_above i r l) e))
    (λ (r : i < h.0). absurd (both_ways (p h.0) (none h.0 r h.1.below) h.1.passes))
    q)
    (cases_order h.0 i))
    (last_below_cases p n)

-- a test that some number below n passes, and the number
pub any_below-true : (p : ℕ → Bool) (n : ℕ) → any_below p n ≡ true → (k : ℕ) × (k < n) × (p k ≡ true)
unfolding any_below
any_below-true p zero e = absurd (false≢true e)
any_below-true p (suc n) e = ⊎_elim
    (λ (h : p n ≡ true). (n, omega arith, h))
    (λ (h : any_below p n ≡ true). let r = any_below-true p n h in (r.0, omega (arith, r.1), r.2))
    (or_cases (p n) (any_below p n) e)

pub any_below-false : (p : ℕ → Bool) (n : ℕ) → any_below p n ≡ false → (k : ℕ) → k < n → p k ≡ false
unfolding any_below
any_below-false p zero e k l = absurd (omega arith)
any_below-false p (suc n) e k l =
    let parts = or_parts (p n) (any_below p n) e in
    ⊎_elim (λ (q : k ≡ n). rw q parts.0) (λ q. ⊎_elim (λ (r : k < n). any_below-false p n parts.1 k r) (λ r. absurd (omega arith)) q) (cases_order k n)

pub any_below_from : (p : ℕ → Bool) (n k : ℕ) → k < n → p k ≡ true → any_below p n ≡ true
any_below_from p n k l e = ⊎_elim
    (λ h. h)
    (λ (h : any_below p n ≡ false). absurd (both_ways (p k) (any_below-false p n h k l) e))
    (cases_Bool (any_below p n))

-- tests that agree below n answer alike
pub any_below_same : (p q : ℕ → Bool) (n : ℕ) → ((k : ℕ) → k < n → p k ≡ q k) → any_below p n ≡ any_below q n
unfolding any_below
any_below_same p q zero h = refl
any_below_same p q (suc n) h = rw (h n (omega arith), any_below_same p q n (λ k l. h k (omega arith))) refl

-- the first number apart from the others
pub any_below_front : (p : ℕ → Bool) (n : ℕ) → any_below p (suc n) ≡ (p 0 || any_below (λ k. p (suc k)) n)
unfolding any_below
any_below_front p zero = refl
any_below_front p (suc n) = or_front (p (suc n)) (p 0) (any_below (λ k. p (suc k)) n) _ (any_below_front p n)
  where
    or_front : (a b c d : Bool) → d ≡ (b || c) → (a || d) ≡ (b || (a || c))
    or_front true true c d e = refl
    or_front true false c d e = refl
    or_front false b c d e = e

-- either test
pub any_below_or : (p q : ℕ → Bool) (n : ℕ) → any_below (λ k. p k || q k) n ≡ (any_below p n || any_below q n)
unfolding any_below
any_below_or p q zero = refl
any_below_or p q (suc n) = or_middle (p n) (q n) (any_below p n) (any_below q n) _ (any_below_or p q n)
  where
    or_middle : (a b c d e : Bool) → e ≡ (c || d) → ((a || b) || e) ≡ ((a || c) || (b || d))
    or_middle true b c d e h = refl
    or_middle false true true d e h = refl
    or_middle false true false d e h = refl
    or_middle false false true d e h = h
    or_middle false false false d e h = h

-- numbers that fail the test change no answer
pub any_below_gap : (p : ℕ → Bool) (a b : ℕ) → a ≤ b → ((k : ℕ) → a ≤ k → k < b → p k ≡ false) → any_below p a ≡ any_below p b
unfolding any_below
any_below_gap p a zero l h =
    let e : a ≡ 0 = omega arith in
    ap (any_below p) e
any_below_gap p a (suc b) l h = ⊎_elim
    (λ (e : a ≡ suc b). ap (any_below p) e)
    (λ (n : a ≡ suc b → ⊥). any_below_gap p a b (omega arith) (λ k x y. h k x (omega arith)) ∙ one_more (h b (omega arith) (omega arith)))
    (cases_eq a (suc b))
  where
    one_more : p b ≡ false → any_below p b ≡ any_below p (suc b)
    one_more e = rw e refl
