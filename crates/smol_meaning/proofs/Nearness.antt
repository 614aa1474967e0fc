-- How far a fold leads, on one axis: what was within some length of the origin on the way ends no farther out than by the rest
-- of the way.
use Rattle.std.proofs.Common.{⊎_elim, ◌≡◌, ℕ, ◌+◌, ◌*◌, ◌<◌, ◌≤◌, ◌⊎◌, inl, inr, true, false, sym, ◌∙◌, ap, subst, arith, ℤ, pos, negsuc, neg_ℤ, ◌+ℤ◌, ◌-ℤ◌, ◌*ℤ◌, ◌≤ℤ◌, int_lt, unsigned_abs}
use Rattle.std.proofs.lemmas.Int.{ints}
use Rattle.std.proofs.Math.Nat.{mul-le-mul_right}
use Rattle.smol_geom.specs.Fold.{IsSign}
use Rattle.smol_geom.specs.Moments.{coordinate_from}
use Rattle.smol_geom.proofs.Cells.{direction, signed, signed_size, mirrored_way}
use Rattle.smol_geom.proofs.Integers.{sums, mul-add_left, mul-add_right, mul-neg_right, cancel_mul_ℤ}

-- the low bound less the way, and the high bound and the way
pub record Reaches (low high : ℤ) (k : ℕ) (x end : ℤ) : Type 0 where
  pub x_above : (low -ℤ pos k) ≤ℤ x
  pub x_below : x ≤ℤ (high +ℤ pos k)
  pub end_above : (low -ℤ pos k) ≤ℤ end
  pub end_below : end ≤ℤ (high +ℤ pos k)

module _ (low high x : ℤ) (num den k : ℕ) (positive : 0 < den) (less : num ≤ den) where
  part : num * k ≤ den * k
  part = mul-le-mul_right k less

  spread_low : (low -ℤ pos k) *ℤ pos den ≡ low *ℤ pos den +ℤ neg_ℤ (pos (k * den))
  spread_low = mul-add_left low (neg_ℤ (pos k)) (pos den) ∙ ap (λ z. low *ℤ pos den +ℤ z) (mirrored_way (pos k) (pos den))

  spread_high : (high +ℤ pos k) *ℤ pos den ≡ high *ℤ pos den +ℤ pos (k * den)
  spread_high = mul-add_left high (pos k) (pos den)

  reaches_up : (low *ℤ pos den) ≤ℤ (x *ℤ pos den +ℤ pos (num * k)) → (x *ℤ pos den +ℤ pos (num * k)) ≤ℤ (high *ℤ pos den) → Reaches low high k x (x +ℤ pos k)
  reaches_up from_low to_high =
      let whole_way : (x +ℤ pos k) *ℤ pos den ≡ x *ℤ pos den +ℤ pos (k * den) = mul-add_left x (pos k) (pos den) in
      record {
        x_above = cancel_mul_ℤ (low -ℤ pos k) x den positive (omega (arith, sums, from_low, spread_low, part));
        x_below = cancel_mul_ℤ x (high +ℤ pos k) den positive (omega (arith, sums, to_high, spread_high, part));
        end_above = cancel_mul_ℤ (low -ℤ pos k) (x +ℤ pos k) den positive (omega (arith, sums, from_low, spread_low, part, whole_way));
        end_below = cancel_mul_ℤ (x +ℤ pos k) (high +ℤ pos k) den positive (omega (arith, sums, to_high, spread_high, part, whole_way));
      }

  reaches_down : (low *ℤ pos den) ≤ℤ (x *ℤ pos den +ℤ neg_ℤ (pos (num * k))) → (x *ℤ pos den +ℤ neg_ℤ (pos (num * k))) ≤ℤ (high *ℤ pos den) → Reaches low high k x (x +ℤ neg_ℤ (pos k))
  reaches_down from_low to_high =
      let whole_way : (x +ℤ neg_ℤ (pos k)) *ℤ pos den ≡ x *ℤ pos den +ℤ neg_ℤ (pos (k * den)) =
      mul-add_left x (neg_ℤ (pos k)) (pos den) ∙ ap (λ z. x *ℤ pos den +ℤ z) (mirrored_way (pos k) (pos den)) in
      record {
        x_above = cancel_mul_ℤ (low -ℤ pos k) x den positive (omega (arith, sums, from_low, spread_low, part));
        x_below = cancel_mul_ℤ x (high +ℤ pos k) den positive (omega (arith, sums, to_high, spread_high, part));
        end_above = cancel_mul_ℤ (low -ℤ pos k) (x +ℤ neg_ℤ (pos k)) den positive (omega (arith, sums, from_low, spread_low, part, whole_way));
        end_below = cancel_mul_ℤ (x +ℤ neg_ℤ (pos k)) (high +ℤ pos k) den positive (omega (arith, sums, to_high, spread_high, part, whole_way));
      }

-- the shift of a fold, and where the fold ends, where lengths up to this one are near
pub record IsNear (s a d h : ℤ) (most : ℕ) : Type 0 where
  pub shift : unsigned_abs h ≤ unsigned_abs a + unsigned_abs d + most
  pub end : unsigned_abs (s *ℤ (a +ℤ d) +ℤ h) ≤ most + unsigned_abs d

near_from : (s a d h low high : ℤ) (most : ℕ) → IsSign s → unsigned_abs low ≤ most → unsigned_abs high ≤ most
    → Reaches low high (unsigned_abs d) (s *ℤ a +ℤ h) ((s *ℤ a +ℤ h) +ℤ s *ℤ d) → IsNear s a d h most
near_from s a d h low high most sign small_low small_high r =
    record {
      shift = ⊎_elim
          (λ (e : s *ℤ a ≡ a). let x : s *ℤ a +ℤ h ≡ a +ℤ h = ap (λ z. z +ℤ h) e in omega (arith, ints, r.x_above, r.x_below, x))
          (λ (e : s *ℤ a ≡ neg_ℤ a). let x : s *ℤ a +ℤ h ≡ neg_ℤ a +ℤ h = ap (λ z. z +ℤ h) e in omega (arith, ints, r.x_above, r.x_below, x))
          (signed s a sign);
      end = small ((s *ℤ a +ℤ h) +ℤ s *ℤ d) (s *ℤ (a +ℤ d) +ℤ h) is_end r.end_above r.end_below;
    }
  where
    is_end : s *ℤ (a +ℤ d) +ℤ h ≡ (s *ℤ a +ℤ h) +ℤ s *ℤ d
    is_end = let spread = mul-add_right s a d in omega (arith, sums, spread)

    small : (x y : ℤ) → y ≡ x → (low -ℤ pos (unsigned_abs d)) ≤ℤ x → x ≤ℤ (high +ℤ pos (unsigned_abs d)) → unsigned_abs y ≤ most + unsigned_abs d
    small x y e above below = omega (arith, ints, e, above, below)

-- where the true coordinate is in a range at some part of the move, the fold is near
pub near_within : (s a d h low high : ℤ) (num den most : ℕ) → IsSign s → 0 < den → num ≤ den → unsigned_abs low ≤ most → unsigned_abs high ≤ most
    → (low *ℤ pos den) ≤ℤ ((s *ℤ a +ℤ h) *ℤ pos den +ℤ pos num *ℤ (s *ℤ d)) → ((s *ℤ a +ℤ h) *ℤ pos den +ℤ pos num *ℤ (s *ℤ d)) ≤ℤ (high *ℤ pos den)
    → IsNear s a d h most
near_within s a d h low high num den most sign positive less small_low small_high from_low to_high =
    near_from s a d h low high most sign small_low small_high (go (direction (s *ℤ d)))
  where
    size : unsigned_abs (s *ℤ d) ≡ unsigned_abs d
    size = signed_size s d sign

    go : ((int_lt (pos 0) (s *ℤ d) ≡ true) × (s *ℤ d ≡ pos (unsigned_abs (s *ℤ d)))) ⊎ ((int_lt (pos 0) (s *ℤ d) ≡ false) × (s *ℤ d ≡ neg_ℤ (pos (unsigned_abs (s *ℤ d)))))
        → Reaches low high (unsigned_abs d) (s *ℤ a +ℤ h) ((s *ℤ a +ℤ h) +ℤ s *ℤ d)
    go (inl w) =
        let way : s *ℤ d ≡ pos (unsigned_abs d) = w.1 ∙ ap pos size in
        let made : pos num *ℤ (s *ℤ d) ≡ pos (num * unsigned_abs d) = ap (λ z. pos num *ℤ z) way in
        subst (λ z. Reaches low high (unsigned_abs d) (s *ℤ a +ℤ h) ((s *ℤ a +ℤ h) +ℤ z)) (sym way)
        (reaches_up low high (s *ℤ a +ℤ h) num den (unsigned_abs d) positive less
        (subst (λ z. (low *ℤ pos den) ≤ℤ ((s *ℤ a +ℤ h) *ℤ pos den +ℤ z)) made from_low) (subst (λ z. ((s *ℤ a +ℤ h) *ℤ pos den +ℤ z) ≤ℤ (high *ℤ pos den)) made to_high))
    go (inr w) =
        let way : s *ℤ d ≡ neg_ℤ (pos (unsigned_abs d)) = w.1 ∙ ap (λ n. neg_ℤ (pos n)) size in
        let made : pos num *ℤ (s *ℤ d) ≡ neg_ℤ (pos (num * unsigned_abs d)) = ap (λ z. pos num *ℤ z) way ∙ mul-neg_right (pos num) (pos (unsigned_abs d)) in
        subst (λ z. Reaches low high (unsigned_abs d) (s *ℤ a +ℤ h) ((s *ℤ a +ℤ h) +ℤ z)) (sym way)
        (reaches_down low high (s *ℤ a +ℤ h) num den (unsigned_abs d) positive less
        (subst (λ z. (low *ℤ pos den) ≤ℤ ((s *ℤ a +ℤ h) *ℤ pos den +ℤ z)) made from_low) (subst (λ z. ((s *ℤ a +ℤ h) *ℤ pos den +ℤ z) ≤ℤ (high *ℤ pos den)) made to_high))

-- the rest of a way from what some of its ticks reach
rest_of : (a d : ℤ) (n : ℕ) → n ≤ unsigned_abs d → (unsigned_abs (a +ℤ d -ℤ coordinate_from a d n) ≤ unsigned_abs d) × (unsigned_abs (coordinate_from a d n) ≤ unsigned_abs a + unsigned_abs d)
rest_of a d n less = go (direction d)
  where
    go : ((int_lt (pos 0) d ≡ true) × (d ≡ pos (unsigned_abs d))) ⊎ ((int_lt (pos 0) d ≡ false) × (d ≡ neg_ℤ (pos (unsigned_abs d))))
        → (unsigned_abs (a +ℤ d -ℤ coordinate_from a d n) ≤ unsigned_abs d) × (unsigned_abs (coordinate_from a d n) ≤ unsigned_abs a + unsigned_abs d)
    go (inl w) = rw w.0 (omega (arith, ints, w.1), omega (arith, ints, w.1))
    go (inr w) = rw w.0 (omega (arith, ints, w.1), omega (arith, ints, w.1))

-- where a fold is mirrored at a plane within some length, the mirrored fold is near
pub near_mirrored : (s a d h p : ℤ) (n most : ℕ) → IsSign s → n ≤ unsigned_abs d → unsigned_abs p ≤ most → p ≡ s *ℤ coordinate_from a d n +ℤ h
    → IsNear (neg_ℤ s) a d (pos 2 *ℤ p -ℤ h) most
near_mirrored s a d h p n most (inl e) less small is =
    let r = rest_of a d n less in
    let there : p ≡ coordinate_from a d n +ℤ h = is ∙ ap (λ z. z *ℤ coordinate_from a d n +ℤ h) e ∙ one (coordinate_from a d n) h in
    subst (λ z. IsNear (neg_ℤ z) a d (pos 2 *ℤ p -ℤ h) most) (sym e) (record {
      shift = shift_is (coordinate_from a d n) there r.1;
      end = end_is (coordinate_from a d n) there r.0;
    })
  where
    one : (u h : ℤ) → pos 1 *ℤ u +ℤ h ≡ u +ℤ h
    one u h = omega (arith, ints)

    shift_is : (u : ℤ) → p ≡ u +ℤ h → unsigned_abs u ≤ unsigned_abs a + unsigned_abs d → unsigned_abs (pos 2 *ℤ p -ℤ h) ≤ unsigned_abs a + unsigned_abs d + most
    shift_is u there size = omega (arith, ints, there, size, small)

    end_is : (u : ℤ) → p ≡ u +ℤ h → unsigned_abs (a +ℤ d -ℤ u) ≤ unsigned_abs d → unsigned_abs (neg_ℤ (pos 1) *ℤ (a +ℤ d) +ℤ (pos 2 *ℤ p -ℤ h)) ≤ most + unsigned_abs d
    end_is u there size = omega (arith, ints, there, size, small)
near_mirrored s a d h p n most (inr e) less small is =
    let r = rest_of a d n less in
    let there : p ≡ neg_ℤ (coordinate_from a d n) +ℤ h = is ∙ ap (λ z. z *ℤ coordinate_from a d n +ℤ h) e ∙ minus (coordinate_from a d n) h in
    subst (λ z. IsNear (neg_ℤ z) a d (pos 2 *ℤ p -ℤ h) most) (sym e) (record {
      shift = shift_is (coordinate_from a d n) there r.1;
      end = end_is (coordinate_from a d n) there r.0;
    })
  where
    minus : (u h : ℤ) → negsuc 0 *ℤ u +ℤ h ≡ neg_ℤ u +ℤ h
    minus u h = omega (arith, ints)

    shift_is : (u : ℤ) → p ≡ neg_ℤ u +ℤ h → unsigned_abs u ≤ unsigned_abs a + unsigned_abs d → unsigned_abs (pos 2 *ℤ p -ℤ h) ≤ unsigned_abs a + unsigned_abs d + most
    shift_is u there size = omega (arith, ints, there, size, small)

    end_is : (u : ℤ) → p ≡ neg_ℤ u +ℤ h → unsigned_abs (a +ℤ d -ℤ u) ≤ unsigned_abs d → unsigned_abs (neg_ℤ (negsuc 0) *ℤ (a +ℤ d) +ℤ (pos 2 *ℤ p -ℤ h)) ≤ most + unsigned_abs d
    end_is u there size = omega (arith, ints, there, size, small)

-- a range and what is in it, both moved by a number
moved_up : (low x b w : ℤ) (den : ℕ) → (low *ℤ pos den) ≤ℤ (x *ℤ pos den +ℤ w) → ((low +ℤ b) *ℤ pos den) ≤ℤ ((x +ℤ b) *ℤ pos den +ℤ w)
moved_up low x b w den from_low =
    let spread_low = mul-add_left low b (pos den) in
    let spread_x = mul-add_left x b (pos den) in
    omega (arith, sums, from_low, spread_low, spread_x)

moved_down : (high x b w : ℤ) (den : ℕ) → (x *ℤ pos den +ℤ w) ≤ℤ (high *ℤ pos den) → ((x +ℤ b) *ℤ pos den +ℤ w) ≤ℤ ((high +ℤ b) *ℤ pos den)
moved_down high x b w den to_high =
    let spread_high = mul-add_left high b (pos den) in
    let spread_x = mul-add_left x b (pos den) in
    omega (arith, sums, to_high, spread_high, spread_x)

regrouped : (x h b : ℤ) → (x +ℤ h) +ℤ b ≡ x +ℤ (h +ℤ b)
regrouped x h b = omega (arith, ints)

-- where the true coordinate is in a range, and the range that a translation moves it to is near, the translated fold is near
pub near_shifted : (s a d h b low high : ℤ) (num den most : ℕ) → IsSign s → 0 < den → num ≤ den
    → unsigned_abs (low +ℤ b) ≤ most → unsigned_abs (high +ℤ b) ≤ most
    → (low *ℤ pos den) ≤ℤ ((s *ℤ a +ℤ h) *ℤ pos den +ℤ pos num *ℤ (s *ℤ d)) → ((s *ℤ a +ℤ h) *ℤ pos den +ℤ pos num *ℤ (s *ℤ d)) ≤ℤ (high *ℤ pos den)
    → IsNear s a d (h +ℤ b) most
near_shifted s a d h b low high num den most sign positive less small_low small_high from_low to_high =
    near_within s a d (h +ℤ b) (low +ℤ b) (high +ℤ b) num den most sign positive less small_low small_high
    (subst (λ z. ((low +ℤ b) *ℤ pos den) ≤ℤ (z *ℤ pos den +ℤ pos num *ℤ (s *ℤ d))) (regrouped (s *ℤ a) h b) (moved_up low (s *ℤ a +ℤ h) b (pos num *ℤ (s *ℤ d)) den from_low))
    (subst (λ z. (z *ℤ pos den +ℤ pos num *ℤ (s *ℤ d)) ≤ℤ ((high +ℤ b) *ℤ pos den)) (regrouped (s *ℤ a) h b) (moved_down high (s *ℤ a +ℤ h) b (pos num *ℤ (s *ℤ d)) den to_high))
