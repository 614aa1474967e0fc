-- The first byte of a kind, if there is one.
use Rattle.std.proofs.Common.{◌≡◌, ℕ, suc, ◌+◌, Bool, true, false, not, cond, ltb, ◌||◌, List, [], ◌∷◌, length, ◌-◌, take, drop, Some, None, refl, sym, ap, ◌∙◌, inl, inr, arith}
use Rattle.std.specs.Prelude.{is_some}
use Rattle.std.specs.List.{list_any, position, position_or_len, after_first}
use Rattle.std.proofs.lemmas.List.{take_all, length-drop}
use Rattle.std.proofs.lemmas.Bool.{cases_lt, lt-ltb, le-ltb}

ltb-suc : (m n : ℕ) → ltb (1 + m) (suc n) ≡ ltb m n
ltb-suc m n =
    elim (cases_lt m n) [
      | inl less ↦ lt-ltb (1 + m) (suc n) (omega arith) ∙ sym (lt-ltb m n less)
      | inr more ↦ le-ltb (1 + m) (suc n) (omega arith) ∙ sym (le-ltb m n more)
    ]

step : (b : Bool) (m n : ℕ) (r : Bool) → ltb m n ≡ r → ltb (cond (not b) (1 + m) 0) (suc n) ≡ (b || r)
step true m n r e = lt-ltb 0 (suc n) (omega arith)
step false m n r e = ltb-suc m n ∙ e

-- the first place that passes is in the list where some element passes
pub ltb-position_or_len : (p : ℕ → Bool) (xs : List ℕ) → ltb (position_or_len p xs) (length xs) ≡ list_any p xs
ltb-position_or_len p [] = le-ltb 0 0 (omega arith)
ltb-position_or_len p (x ∷ xs) = step (p x) (position_or_len p xs) (length xs) (list_any p xs) (ltb-position_or_len p xs)

is_some-cond : (b : Bool) (n : ℕ) → is_some (cond b (Some n) None) ≡ b
is_some-cond true n = refl
is_some-cond false n = refl

-- there is a first place that passes where some element passes
pub is_some-position : (p : ℕ → Bool) (xs : List ℕ) → is_some (position p xs) ≡ list_any p xs
is_some-position p xs =
    is_some-cond (ltb (position_or_len p xs) (length xs)) (position_or_len p xs) ∙ ltb-position_or_len p xs

at-cond : (b : Bool) (n at : ℕ) → Some at ≡ cond b (Some n) None → at ≡ n
at-cond true n at is = cc
at-cond false n at is = absurd (cc)

-- what stands after the first place that passes
pub after_first-position : (p : ℕ → Bool) (xs : List ℕ) (at : ℕ) → Some at ≡ position p xs → take (length xs - (at + 1)) (drop (at + 1) xs) ≡ after_first p xs
after_first-position p xs at found =
    let same : at ≡ position_or_len p xs = at-cond (ltb (position_or_len p xs) (length xs)) (position_or_len p xs) at found in
    take_all (length xs - (at + 1)) (drop (at + 1) xs) (omega (arith, length-drop (at + 1) xs)) ∙ ap (λ k. drop (k + 1) xs) same
