-- What passes a test among numbers one after the other.
use Rattle.std.proofs.Common.{◌≡◌, ◌∙◌, ℕ, zero, suc, ◌+◌, ◌<◌, ◌⊎◌, inl, inr, Bool, true, false, List, [], ◌∷◌, get_or, refl, sym, ap, subst, ⊎_elim, arith}
use Rattle.std.specs.Prelude.{filter}
use Rattle.std.specs.List.Sorted.{IsStrictlyIncreasing}
use Rattle.std.proofs.lemmas.Bool.{cases_Bool, cond_both}
use Rattle.smol_geom.specs.Moments.{Has}
use Rattle.smol_cells.specs.Placed.{counted}
use Rattle.smol_cells.proofs.Members.{counted_has}

-- two tests that agree on the members keep the same
pub filter_same : (p q : ℕ → Bool) (xs : List ℕ) → ((n : ℕ) → Has xs n → p n ≡ q n) → filter p xs ≡ filter q xs
filter_same p q [] same = refl
filter_same p q (x ∷ xs) same =
    let rest = filter_same p q xs (λ n there. same n (inr there)) in
    ⊎_elim
    (λ (e : q x ≡ true). rw (same x (inl refl) ∙ e, e) (ap (λ ys. x ∷ ys) rest))
    (λ (e : q x ≡ false). rw (same x (inl refl) ∙ e, e) rest)
    (cases_Bool (q x))

pub has_filter : (p : ℕ → Bool) (xs : List ℕ) (n : ℕ) → Has xs n → p n ≡ true → Has (filter p xs) n
has_filter p [] n there e = absurd there
has_filter p (x ∷ xs) n (inl same) e = rw (ap p same ∙ e) (inl same)
has_filter p (x ∷ xs) n (inr there) e =
    let rest = has_filter p xs n there e in
    cond_both (p x) (x ∷ filter p xs) (filter p xs) (λ ys. Has ys n) (λ _. inr rest) (λ _. rest)

pub filter_has : (p : ℕ → Bool) (xs : List ℕ) (n : ℕ) → Has (filter p xs) n → Has xs n × (p n ≡ true)
filter_has p [] n there = absurd there
filter_has p (x ∷ xs) n there = ⊎_elim
    (λ (e : p x ≡ true).
    let first : (x ≡ n) ⊎ Has (filter p xs) n = rw e at there in
    ⊎_elim
    (λ (same : x ≡ n). (inl same, ap p (sym same) ∙ e))
    (λ (later : Has (filter p xs) n). let h = filter_has p xs n later in (inr h.0, h.1))
    first)
    (λ (e : p x ≡ false). let h = filter_has p xs n (rw e at there) in (inr h.0, h.1))
    (cases_Bool (p x))

increasing_cons : (x : ℕ) (xs : List ℕ) → ((n : ℕ) → Has xs n → x < n) → IsStrictlyIncreasing xs → IsStrictlyIncreasing (x ∷ xs)
increasing_cons x [] above up k inside = absurd (omega (arith, inside))
increasing_cons x (y ∷ ys) above up zero inside = above y (inl refl)
increasing_cons x (y ∷ ys) above up (suc k) inside =
    let next : suc k + 1 ≡ suc (k + 1) = omega arith in
    subst (λ n. get_or (y ∷ ys) k 0 < get_or (x ∷ y ∷ ys) n 0) (sym next) (up k (omega (arith, inside)))

pub filter_rises : (p : ℕ → Bool) (first count : ℕ) → IsStrictlyIncreasing (filter p (counted first count))
filter_rises p first zero = λ k inside. absurd (omega (arith, inside))
filter_rises p first (suc count) =
    let rest = filter_rises p (suc first) count in
    cond_both (p first) (first ∷ filter p (counted (suc first) count)) (filter p (counted (suc first) count)) IsStrictlyIncreasing
    (λ _. increasing_cons first (filter p (counted (suc first) count))
    (λ n there. let h = counted_has (suc first) count n (filter_has p (counted (suc first) count) n there).0 in omega (arith, h.0)) rest)
    (λ _. rest)
