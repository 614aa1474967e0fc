-- How many ticks of a way lead to a coordinate, and how a fold is undone.
use Rattle.std.proofs.Common.{◌≡◌, ℕ, zero, suc, ◌<◌, ◌%◌, Bool, true, false, ◌⊎◌, inl, inr, refl, sym, ◌∙◌, ap, subst, arith, ℤ, pos, negsuc, neg_ℤ, ◌+ℤ◌, ◌-ℤ◌, ◌*ℤ◌, int_lt, unsigned_abs, FitsSigned, Option, Some, None}
use Rattle.std.proofs.lemmas.Bool.{cases_Bool, lt-ltb, le-ltb, both_ways}
use Rattle.std.proofs.lemmas.Int.{ints, fits_signed_from_abs}
use Rattle.std.specs.Int.{w8}
use Rattle.smol_geom.specs.Fold.{IsSign}
use Rattle.smol_geom.specs.Moments.{coordinate_from}
use Rattle.smol_travel.specs.Meetings.{IsSameWay}

above_nothing : (z : ℤ) → int_lt (pos 0) z ≡ true → z ≡ pos (unsigned_abs z)
above_nothing (pos n) e = refl
above_nothing (negsuc n) e = absurd (both_ways _ refl e)

below_nothing : (z : ℤ) → int_lt z (pos 0) ≡ true → z ≡ neg_ℤ (pos (unsigned_abs z))
below_nothing (pos n) e = absurd (both_ways (int_lt (pos n) (pos 0)) (le-ltb n 0 (omega arith)) e)
below_nothing (negsuc n) e = omega (arith, ints)

up_from : (z : ℤ) (n : ℕ) → 0 < n → z ≡ pos n → int_lt (pos 0) z ≡ true
up_from z n some e = ap (int_lt (pos 0)) e ∙ lt-ltb 0 n some

down_from : (z : ℤ) (n : ℕ) → 0 < n → z ≡ neg_ℤ (pos n) → int_lt z (pos 0) ≡ true
down_from z zero some e = absurd (omega arith)
down_from z (suc n) some e = ap (λ x. int_lt x (pos 0)) e

-- the size of a gap that leads the same way is the number of ticks
pub ticks_there : (start way goal gap : ℤ) (num : ℕ) → gap ≡ goal -ℤ start → num ≡ unsigned_abs gap → IsSameWay gap way → coordinate_from start way num ≡ goal
ticks_there start way goal gap num is size (inl same) =
    let g = above_nothing gap same.1 in rw same.0 (omega (arith, ints))
ticks_there start way goal gap num is size (inr same) =
    let g = below_nothing gap same.1 in rw same.0 (omega (arith, ints))

-- what some ticks span has a gap that leads the same way, and is their number
pub ticks_only : (start way goal gap : ℤ) (n : ℕ) → gap ≡ goal -ℤ start → 0 < n → coordinate_from start way n ≡ goal → IsSameWay gap way × (unsigned_abs gap ≡ n)
ticks_only start way goal gap n is some there = go (cases_Bool (int_lt (pos 0) way))
  where
    go : (int_lt (pos 0) way ≡ true) ⊎ (int_lt (pos 0) way ≡ false) → IsSameWay gap way × (unsigned_abs gap ≡ n)
    go (inl e) =
        let there_is : start +ℤ pos n ≡ goal = rw e at there in
        let g : gap ≡ pos n = omega (arith, ints) in
        (inl (e, up_from gap n some g), ap unsigned_abs g)
    go (inr e) =
        let there_is : start -ℤ pos n ≡ goal = rw e at there in
        let g : gap ≡ neg_ℤ (pos n) = omega (arith, ints) in
        (inr (e, down_from gap n some g), ap unsigned_abs g ∙ size)
      where
        size : unsigned_abs (neg_ℤ (pos n)) ≡ n
        size = omega (arith, ints)

-- to unfold a coordinate, and to fold it again
pub unfold_is : (s x h p : ℤ) → IsSign s → s *ℤ x +ℤ h ≡ p → x ≡ s *ℤ (p -ℤ h)
unfold_is s x h p (inl e) is = subst (λ z. x ≡ z *ℤ (p -ℤ h)) (sym e) (plus (ap (λ z. z *ℤ x +ℤ h) (sym e) ∙ is))
  where
    plus : pos 1 *ℤ x +ℤ h ≡ p → x ≡ pos 1 *ℤ (p -ℤ h)
    plus k = omega (arith, ints)
unfold_is s x h p (inr e) is = subst (λ z. x ≡ z *ℤ (p -ℤ h)) (sym e) (minus (ap (λ z. z *ℤ x +ℤ h) (sym e) ∙ is))
  where
    minus : negsuc 0 *ℤ x +ℤ h ≡ p → x ≡ negsuc 0 *ℤ (p -ℤ h)
    minus k = omega (arith, ints)

pub fold_is : (s x h p : ℤ) → IsSign s → x ≡ s *ℤ (p -ℤ h) → s *ℤ x +ℤ h ≡ p
fold_is s x h p (inl e) is = subst (λ z. z *ℤ x +ℤ h ≡ p) (sym e) (plus (is ∙ ap (λ z. z *ℤ (p -ℤ h)) e))
  where
    plus : x ≡ pos 1 *ℤ (p -ℤ h) → pos 1 *ℤ x +ℤ h ≡ p
    plus k = omega (arith, ints)
fold_is s x h p (inr e) is = subst (λ z. z *ℤ x +ℤ h ≡ p) (sym e) (minus (is ∙ ap (λ z. z *ℤ (p -ℤ h)) e))
  where
    minus : x ≡ negsuc 0 *ℤ (p -ℤ h) → negsuc 0 *ℤ x +ℤ h ≡ p
    minus k = omega (arith, ints)

-- what an even number unfolds to is even
pub unfold_even : (s h p x : ℤ) → IsSign s → unsigned_abs h % 2 ≡ 0 → unsigned_abs p % 2 ≡ 0 → x ≡ s *ℤ (p -ℤ h) → unsigned_abs x % 2 ≡ 0
unfold_even s h p x (inl e) even_h even_p is = plus (is ∙ ap (λ z. z *ℤ (p -ℤ h)) e)
  where
    plus : x ≡ pos 1 *ℤ (p -ℤ h) → unsigned_abs x % 2 ≡ 0
    plus k = omega (arith, ints)
unfold_even s h p x (inr e) even_h even_p is = minus (is ∙ ap (λ z. z *ℤ (p -ℤ h)) e)
  where
    minus : x ≡ negsuc 0 *ℤ (p -ℤ h) → unsigned_abs x % 2 ≡ 0
    minus k = omega (arith, ints)

pub sign_fits : (s : ℤ) → IsSign s → FitsSigned w8 s
sign_fits s (inl e) = subst (λ z. FitsSigned w8 z) (sym e) (fits_signed_from_abs w8 (pos 1) (omega arith))
sign_fits s (inr e) = subst (λ z. FitsSigned w8 z) (sym e) (fits_signed_from_abs w8 (negsuc 0) (omega arith))

is_there : Option ℕ → Bool
is_there None = false
is_there (Some n) = true

pub none_some : (n : ℕ) → ◌≡◌ {A = Option ℕ} None (Some n) → ⊥
unfolding is_there
none_some n e = both_ways true (sym (ap is_there e)) refl

pub num_or : ℕ → Option ℕ → ℕ
num_or d None = d
num_or d (Some n) = n

pub some_num : (a b : ℕ) → ◌≡◌ {A = Option ℕ} (Some a) (Some b) → a ≡ b
unfolding num_or
some_num a b e = ap (num_or a) e
