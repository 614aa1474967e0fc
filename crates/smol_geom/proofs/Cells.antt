-- Where a molecule is on one axis: between two even numbers, at whose middle a count of ticks puts it.
use Rattle.std.proofs.Common.{◌≡◌, ℕ, zero, suc, ◌+◌, ◌*◌, ◌/◌, ◌%◌, ◌<◌, ◌≤◌, Bool, true, false, ◌⊎◌, inl, inr, ⊎_elim, cond, refl, sym, ◌∙◌, ap, subst, arith, ℤ, pos, negsuc, neg_ℤ, ◌+ℤ◌, ◌-ℤ◌, ◌*ℤ◌, ◌≤ℤ◌, ◌<ℤ◌, int_lt, unsigned_abs}
use Rattle.std.proofs.lemmas.Bool.{cases_Bool, lt-ltb}
use Rattle.std.proofs.Math.IntN.{*ℤ_comm}
use Rattle.std.proofs.lemmas.Int.{ints, by_lt_z}
use Rattle.smol_geom.specs.Fraction.{Fraction}
use Rattle.smol_geom.specs.Fold.{IsSign}
use Rattle.smol_geom.specs.Part.{scaled_way}
use Rattle.smol_geom.proofs.Integers.{sums, mul-add_left, mul-add_right, mul_lt_ℤ, mul-neg_right}

-- the middle of the cell: after a count of double ticks from the start, in the direction of the way
abbrev pub centre : ℤ → ℤ → ℕ → ℤ
centre start way c = cond (int_lt (pos 0) way) (start +ℤ pos (2 * c)) (start -ℤ pos (2 * c))

-- the next even number in the direction of the way
abbrev pub ahead : ℤ → ℤ → ℕ → ℤ
ahead start way c = cond (int_lt (pos 0) way) (start +ℤ pos (2 * c + 1)) (start -ℤ pos (2 * c + 1))

-- the middle of a cell within even bounds
pub record IsCell (low high c : ℤ) : Type 0 where
  pub above : low <ℤ c
  pub below : c <ℤ high
  pub half : ℤ
  pub odd : c ≡ half +ℤ half +ℤ pos 1

-- the number is twice another
abbrev pub IsDouble : ℤ → Type 0
IsDouble z = (half : ℤ) × (z ≡ half +ℤ half)

-- an even number is twice another, and an odd one is one more
pub even_double : (z : ℤ) → unsigned_abs z % 2 ≡ 0 → IsDouble z
even_double (pos n) even = (pos (n / 2), omega (arith, ints, even))
even_double (negsuc n) even = (neg_ℤ (pos ((n + 1) / 2)), omega (arith, ints, even))

pub odd_half : (z : ℤ) → unsigned_abs z % 2 ≡ 1 → (half : ℤ) × (z ≡ half +ℤ half +ℤ pos 1)
odd_half (pos n) odd = (pos (n / 2), omega (arith, ints, odd))
odd_half (negsuc n) odd = (neg_ℤ (pos ((n + 2) / 2)), omega (arith, ints, odd))

-- which way a number points
pub direction : (w : ℤ) → ((int_lt (pos 0) w ≡ true) × (w ≡ pos (unsigned_abs w))) ⊎ ((int_lt (pos 0) w ≡ false) × (w ≡ neg_ℤ (pos (unsigned_abs w))))
direction (pos zero) = inr (refl, refl)
direction (pos (suc n)) = inl (lt-ltb 0 (suc n) (omega arith), refl)
direction (negsuc n) = inr (refl, omega (arith, ints))

-- a part of the way that lies within the cell is within the bounds
in_cell_up : (low high start : ℤ) (c num den d : ℕ) → low <ℤ (start +ℤ pos (2 * c)) → (start +ℤ pos (2 * c)) <ℤ high
    → 2 * c * den ≤ num * d + den → num * d ≤ 2 * c * den + den
    → ((low *ℤ pos den) ≤ℤ (start *ℤ pos den +ℤ pos (num * d))) × ((start *ℤ pos den +ℤ pos (num * d)) ≤ℤ (high *ℤ pos den))
in_cell_up low high start c num den d above below behind ahead_ =
    let from_low = mul_lt_ℤ low (start +ℤ pos (2 * c)) den above in
    let to_high = mul_lt_ℤ (start +ℤ pos (2 * c)) high den below in
    let spread = mul-add_left start (pos (2 * c)) (pos den) in
    let made : pos (2 * c) *ℤ pos den ≡ pos (2 * c * den) = refl in
    (omega (arith, sums), omega (arith, sums))

mul-neg_left : (a b : ℤ) → neg_ℤ a *ℤ b ≡ neg_ℤ (a *ℤ b)
mul-neg_left a b = *ℤ_comm (neg_ℤ a) b ∙ mul-neg_right b a ∙ ap neg_ℤ (*ℤ_comm b a)

in_cell_down : (low high start : ℤ) (c num den d : ℕ) → low <ℤ (start -ℤ pos (2 * c)) → (start -ℤ pos (2 * c)) <ℤ high
    → 2 * c * den ≤ num * d + den → num * d ≤ 2 * c * den + den
    → ((low *ℤ pos den) ≤ℤ (start *ℤ pos den +ℤ neg_ℤ (pos (num * d)))) × ((start *ℤ pos den +ℤ neg_ℤ (pos (num * d))) ≤ℤ (high *ℤ pos den))
in_cell_down low high start c num den d above below behind ahead_ =
    let from_low = mul_lt_ℤ low (start -ℤ pos (2 * c)) den above in
    let to_high = mul_lt_ℤ (start -ℤ pos (2 * c)) high den below in
    let spread : (start +ℤ neg_ℤ (pos (2 * c))) *ℤ pos den ≡ start *ℤ pos den +ℤ neg_ℤ (pos (2 * c)) *ℤ pos den = mul-add_left start (neg_ℤ (pos (2 * c))) (pos den) in
    let made : neg_ℤ (pos (2 * c)) *ℤ pos den ≡ neg_ℤ (pos (2 * c * den)) = mul-neg_left (pos (2 * c)) (pos den) in
    (omega (arith, sums), omega (arith, sums))

pub in_cell : (low high start way : ℤ) (c : ℕ) (t : Fraction) (num : ℕ) → t.num ≡ pos num
    → IsCell low high (centre start way c)
    → 2 * c * t.den ≤ num * unsigned_abs way + t.den → num * unsigned_abs way ≤ 2 * c * t.den + t.den
    → ((low *ℤ pos t.den) ≤ℤ scaled_way start way t) × (scaled_way start way t ≤ℤ (high *ℤ pos t.den))
in_cell low high start way c t num is cell behind not_ahead = go (direction way)
  where
    go : ((int_lt (pos 0) way ≡ true) × (way ≡ pos (unsigned_abs way))) ⊎ ((int_lt (pos 0) way ≡ false) × (way ≡ neg_ℤ (pos (unsigned_abs way))))
        → ((low *ℤ pos t.den) ≤ℤ scaled_way start way t) × (scaled_way start way t ≤ℤ (high *ℤ pos t.den))
    go (inl d) =
        let above : low <ℤ (start +ℤ pos (2 * c)) = rw d.0 at cell.above in
        let below : (start +ℤ pos (2 * c)) <ℤ high = rw d.0 at cell.below in
        let made : t.num *ℤ way ≡ pos (num * unsigned_abs way) = (λ i. is i *ℤ d.1 i) in
        let r = in_cell_up low high start c num t.den (unsigned_abs way) above below behind not_ahead in
        (omega (arith, sums, r.0, made), omega (arith, sums, r.1, made))
    go (inr d) =
        let above : low <ℤ (start -ℤ pos (2 * c)) = rw d.0 at cell.above in
        let below : (start -ℤ pos (2 * c)) <ℤ high = rw d.0 at cell.below in
        let made : t.num *ℤ way ≡ neg_ℤ (pos (num * unsigned_abs way)) = (λ i. is i *ℤ d.1 i) ∙ mul-neg_right (pos num) (pos (unsigned_abs way)) in
        let r = in_cell_down low high start c num t.den (unsigned_abs way) above below behind not_ahead in
        (omega (arith, sums, r.0, made), omega (arith, sums, r.1, made))

-- a step that goes on: where the next even number is not the bound ahead, the next cell is within the bounds
pub cell_through : (low high start way : ℤ) (c : ℕ) → IsDouble low → IsDouble high → IsCell low high (centre start way c)
    → (int_lt (pos 0) way ≡ true → ahead start way c ≡ high → ⊥)
    → (int_lt (pos 0) way ≡ false → ahead start way c ≡ low → ⊥)
    → IsCell low high (centre start way (c + 1))
cell_through low high start way c even_low even_high cell not_high not_low = go (cases_Bool (int_lt (pos 0) way))
  where
    go : (int_lt (pos 0) way ≡ true) ⊎ (int_lt (pos 0) way ≡ false) → IsCell low high (centre start way (c + 1))
    go (inl e) =
        let above : low <ℤ (start +ℤ pos (2 * c)) = rw e at cell.above in
        let below : (start +ℤ pos (2 * c)) <ℤ high = rw e at cell.below in
        let odd : start +ℤ pos (2 * c) ≡ cell.half +ℤ cell.half +ℤ pos 1 = rw e at cell.odd in
        let apart : start +ℤ pos (2 * c + 1) ≡ high → ⊥ = rw e at (not_high e) in
        let even = even_high.1 in
        let less : (start +ℤ pos (2 * c + 1)) <ℤ high =
        by_lt_z (start +ℤ pos (2 * c + 1)) high (λ l. l) (λ r. absurd (apart (omega (arith, ints)))) in
        rw e (record {
          above = omega (arith, ints);
          below = omega (arith, ints);
          half = cell.half +ℤ pos 1;
          odd = omega (arith, ints);
        })
    go (inr e) =
        let above : low <ℤ (start -ℤ pos (2 * c)) = rw e at cell.above in
        let below : (start -ℤ pos (2 * c)) <ℤ high = rw e at cell.below in
        let odd : start -ℤ pos (2 * c) ≡ cell.half +ℤ cell.half +ℤ pos 1 = rw e at cell.odd in
        let apart : start -ℤ pos (2 * c + 1) ≡ low → ⊥ = rw e at (not_low e) in
        let even = even_low.1 in
        let less : low <ℤ (start -ℤ pos (2 * c + 1)) =
        by_lt_z low (start -ℤ pos (2 * c + 1)) (λ l. l) (λ r. absurd (apart (omega (arith, ints)))) in
        rw e (record {
          above = omega (arith, ints);
          below = omega (arith, ints);
          half = cell.half -ℤ pos 1;
          odd = omega (arith, ints);
        })

-- a step that turns back: the cell stays
pub centre_turned : (start way : ℤ) (c : ℕ) → 0 < unsigned_abs way
    → centre (pos 2 *ℤ ahead start way c -ℤ start) (neg_ℤ way) (c + 1) ≡ centre start way c
centre_turned start way c moves = go (direction way)
  where
    go : ((int_lt (pos 0) way ≡ true) × (way ≡ pos (unsigned_abs way))) ⊎ ((int_lt (pos 0) way ≡ false) × (way ≡ neg_ℤ (pos (unsigned_abs way))))
        → centre (pos 2 *ℤ ahead start way c -ℤ start) (neg_ℤ way) (c + 1) ≡ centre start way c
    go (inl d) = rw (turned_up way moves d.1, d.0) (omega (arith, ints))
      where
        turned_up : (w : ℤ) → 0 < unsigned_abs w → w ≡ pos (unsigned_abs w) → int_lt (pos 0) (neg_ℤ w) ≡ false
        turned_up (pos zero) m e = absurd (omega arith)
        turned_up (pos (suc n)) m e = refl
        turned_up (negsuc n) m e = absurd (omega (arith, ints))
    go (inr d) = rw (turned_down way moves d.1, d.0) (omega (arith, ints))
      where
        turned_down : (w : ℤ) → 0 < unsigned_abs w → w ≡ neg_ℤ (pos (unsigned_abs w)) → int_lt (pos 0) (neg_ℤ w) ≡ true
        turned_down (pos zero) m e = absurd (omega arith)
        turned_down (pos (suc n)) m e = absurd (omega (arith, ints))
        turned_down (negsuc n) m e = lt-ltb 0 (suc n) (omega arith)

-- the sign of a fold: it keeps a number, or turns it
pub signed : (s z : ℤ) → IsSign s → (s *ℤ z ≡ z) ⊎ (s *ℤ z ≡ neg_ℤ z)
signed s z (inl e) = inl (ap (λ x. x *ℤ z) e ∙ plus)
  where
    plus : pos 1 *ℤ z ≡ z
    plus = omega (arith, ints)
signed s z (inr e) = inr (ap (λ x. x *ℤ z) e ∙ minus)
  where
    minus : negsuc 0 *ℤ z ≡ neg_ℤ z
    minus = omega (arith, ints)

pub signed_size : (s d : ℤ) → IsSign s → unsigned_abs (s *ℤ d) ≡ unsigned_abs d
signed_size s d sign = ⊎_elim (λ e. ap unsigned_abs e) (λ e. ap unsigned_abs e ∙ even) (signed s d sign)
  where
    even : unsigned_abs (neg_ℤ d) ≡ unsigned_abs d
    even = omega (arith, ints)

-- to fold what is coordinate_after after some ticks is to make the ticks from the folded start in the folded direction
pub plane_folded : (s a d h : ℤ) (n : ℕ) → IsSign s → 0 < unsigned_abs d
    → s *ℤ cond (int_lt (pos 0) d) (a +ℤ pos n) (a -ℤ pos n) +ℤ h
    ≡ cond (int_lt (pos 0) (s *ℤ d)) ((s *ℤ a +ℤ h) +ℤ pos n) ((s *ℤ a +ℤ h) -ℤ pos n)
plane_folded s a d h n (inl e) moves = subst (λ x. x *ℤ cond (int_lt (pos 0) d) (a +ℤ pos n) (a -ℤ pos n) +ℤ h ≡ cond (int_lt (pos 0) (x *ℤ d)) ((x *ℤ a +ℤ h) +ℤ pos n) ((x *ℤ a +ℤ h) -ℤ pos n)) (sym e) plus
  where
    one : (z : ℤ) → pos 1 *ℤ z ≡ z
    one z = omega (arith, ints)

    plus : pos 1 *ℤ cond (int_lt (pos 0) d) (a +ℤ pos n) (a -ℤ pos n) +ℤ h ≡ cond (int_lt (pos 0) (pos 1 *ℤ d)) ((pos 1 *ℤ a +ℤ h) +ℤ pos n) ((pos 1 *ℤ a +ℤ h) -ℤ pos n)
    plus = rw (one d, one a, one (cond (int_lt (pos 0) d) (a +ℤ pos n) (a -ℤ pos n))) (both (int_lt (pos 0) d))
      where
        both : (b : Bool) → cond b (a +ℤ pos n) (a -ℤ pos n) +ℤ h ≡ cond b ((a +ℤ h) +ℤ pos n) ((a +ℤ h) -ℤ pos n)
        both true = omega (arith, ints)
        both false = omega (arith, ints)
plane_folded s a d h n (inr e) moves = subst (λ x. x *ℤ cond (int_lt (pos 0) d) (a +ℤ pos n) (a -ℤ pos n) +ℤ h ≡ cond (int_lt (pos 0) (x *ℤ d)) ((x *ℤ a +ℤ h) +ℤ pos n) ((x *ℤ a +ℤ h) -ℤ pos n)) (sym e) minus
  where
    neg : (z : ℤ) → negsuc 0 *ℤ z ≡ neg_ℤ z
    neg z = omega (arith, ints)

    turns : (w : ℤ) → 0 < unsigned_abs w → int_lt (pos 0) (neg_ℤ w) ≡ cond (int_lt (pos 0) w) false true
    turns (pos zero) m = absurd (omega arith)
    turns (pos (suc k)) m = sym (rw (lt-ltb 0 (suc k) (omega arith)) refl)
    turns (negsuc k) m = lt-ltb 0 (suc k) (omega arith)

    minus : negsuc 0 *ℤ cond (int_lt (pos 0) d) (a +ℤ pos n) (a -ℤ pos n) +ℤ h ≡ cond (int_lt (pos 0) (negsuc 0 *ℤ d)) ((negsuc 0 *ℤ a +ℤ h) +ℤ pos n) ((negsuc 0 *ℤ a +ℤ h) -ℤ pos n)
    minus = rw (neg d, neg a, neg (cond (int_lt (pos 0) d) (a +ℤ pos n) (a -ℤ pos n)), turns d moves) (both (int_lt (pos 0) d))
      where
        both : (b : Bool) → neg_ℤ (cond b (a +ℤ pos n) (a -ℤ pos n)) +ℤ h ≡ cond (cond b false true) ((neg_ℤ a +ℤ h) +ℤ pos n) ((neg_ℤ a +ℤ h) -ℤ pos n)
        both true = omega (arith, ints)
        both false = omega (arith, ints)

-- the mirrored fold: the start is mirrored at the plane, and the way turned
pub mirrored_start : (s a h plane : ℤ) → neg_ℤ s *ℤ a +ℤ (pos 2 *ℤ plane -ℤ h) ≡ pos 2 *ℤ plane -ℤ (s *ℤ a +ℤ h)
mirrored_start s a h plane = let t = mul-neg_left s a in omega (arith, sums)

pub mirrored_way : (s d : ℤ) → neg_ℤ s *ℤ d ≡ neg_ℤ (s *ℤ d)
mirrored_way s d = mul-neg_left s d

-- where all ticks are made, the middle of the cell is the end
pub end_centre : (s a d h : ℤ) (c : ℕ) → unsigned_abs (s *ℤ d) ≡ 2 * c → s *ℤ (a +ℤ d) +ℤ h ≡ centre (s *ℤ a +ℤ h) (s *ℤ d) c
end_centre s a d h c size = go (direction (s *ℤ d))
  where
    go : ((int_lt (pos 0) (s *ℤ d) ≡ true) × (s *ℤ d ≡ pos (unsigned_abs (s *ℤ d)))) ⊎ ((int_lt (pos 0) (s *ℤ d) ≡ false) × (s *ℤ d ≡ neg_ℤ (pos (unsigned_abs (s *ℤ d)))))
        → s *ℤ (a +ℤ d) +ℤ h ≡ centre (s *ℤ a +ℤ h) (s *ℤ d) c
    go (inl w) =
        let spread = mul-add_right s a d in
        let way : s *ℤ d ≡ pos (2 * c) = w.1 ∙ ap pos size in
        rw w.0 (omega (arith, sums, spread, way))
    go (inr w) =
        let spread = mul-add_right s a d in
        let way : s *ℤ d ≡ neg_ℤ (pos (2 * c)) = w.1 ∙ ap (λ n. neg_ℤ (pos n)) size in
        rw w.0 (omega (arith, sums, spread, way))

-- at some of its ticks the way has made them exactly
pub exact_at : (start way : ℤ) (n : ℕ) (t : Fraction) → t.num ≡ pos n → t.den ≡ unsigned_abs way
    → scaled_way start way t ≡ cond (int_lt (pos 0) way) (start +ℤ pos n) (start -ℤ pos n) *ℤ pos t.den
exact_at start way n t num den = go (direction way)
  where
    go : ((int_lt (pos 0) way ≡ true) × (way ≡ pos (unsigned_abs way))) ⊎ ((int_lt (pos 0) way ≡ false) × (way ≡ neg_ℤ (pos (unsigned_abs way))))
        → scaled_way start way t ≡ cond (int_lt (pos 0) way) (start +ℤ pos n) (start -ℤ pos n) *ℤ pos t.den
    go (inl d) =
        let made : t.num *ℤ way ≡ pos n *ℤ pos t.den = (λ i. num i *ℤ (d.1 ∙ ap pos (sym den)) i) in
        let spread = mul-add_left start (pos n) (pos t.den) in
        rw d.0 (omega (arith, sums, made, spread))
    go (inr d) =
        let made : t.num *ℤ way ≡ neg_ℤ (pos n *ℤ pos t.den) = (λ i. num i *ℤ (d.1 ∙ ap (λ k. neg_ℤ (pos k)) (sym den)) i) ∙ mul-neg_right (pos n) (pos t.den) in
        let spread : (start +ℤ neg_ℤ (pos n)) *ℤ pos t.den ≡ start *ℤ pos t.den +ℤ neg_ℤ (pos n) *ℤ pos t.den = mul-add_left start (neg_ℤ (pos n)) (pos t.den) in
        let turned = mul-neg_left (pos n) (pos t.den) in
        rw d.0 (omega (arith, sums, made, spread, turned))
