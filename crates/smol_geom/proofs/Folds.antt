-- A fold carries a straight move to a straight move.
use Rattle.std.proofs.Common.{◌≡◌, ℕ, ◌*◌, ℤ, pos, ◌+ℤ◌, ◌*ℤ◌, ◌∙◌, ap, arith}
use Rattle.smol_geom.specs.Fraction.{Fraction, whole, ◌+ℚ◌, ◌*ℚ◌}
use Rattle.smol_geom.specs.Line.{part_way}
use Rattle.smol_geom.proofs.Integers.{sums, mul_one_ℤ, mul-add_left, mul-add_right, mul_assoc_ℤ, mul_swap}

-- to fold the reached point is to reach the point of the folded way
fold_num : (s a d h n : ℤ) (m : ℕ)
    → (s *ℤ a +ℤ h) *ℤ pos m +ℤ (n *ℤ (s *ℤ d)) *ℤ pos 1 ≡ (s *ℤ (a *ℤ pos m +ℤ (n *ℤ d) *ℤ pos 1)) *ℤ pos 1 +ℤ h *ℤ pos m
fold_num s a d h n m =
    let spread = mul-add_left (s *ℤ a) h (pos m) in
    let grouped = mul_assoc_ℤ s a (pos m) in
    let swapped = mul_swap n s d in
    let gathered = mul-add_right s (a *ℤ pos m) ((n *ℤ d) *ℤ pos 1) in
    let one_way = mul_one_ℤ (n *ℤ (s *ℤ d)) in
    let one_step = ap (λ z. s *ℤ z) (mul_one_ℤ (n *ℤ d)) in
    let one_fold = mul_one_ℤ (s *ℤ (a *ℤ pos m +ℤ (n *ℤ d) *ℤ pos 1)) in
    omega (arith, sums)

-- the fold of a way, as fractions
fold_way : (s a d h : ℤ) (t : Fraction) → part_way (s *ℤ a +ℤ h) (s *ℤ d) t ≡ whole s *ℚ part_way a d t +ℚ whole h
fold_way s a d h t =
    let one_den : t.den * 1 ≡ 1 * (1 * (t.den * 1)) = omega arith in
    let den : 1 * (t.den * 1) ≡ 1 * (1 * (t.den * 1)) * 1 = omega arith in
    let num = fold_num s a d h t.num (t.den * 1)
    ∙ ap (λ m. (s *ℤ (a *ℤ pos (t.den * 1) +ℤ (t.num *ℤ d) *ℤ pos 1)) *ℤ pos 1 +ℤ h *ℤ pos m) one_den in
    λ i. record { num = num i; den = den i }

-- the point that the folded place and the folded step reach is the fold of the point that is reached
pub folded_point : (s a d h place step : ℤ) (t : Fraction) → place ≡ s *ℤ a +ℤ h → step ≡ s *ℤ d
    → part_way place step t ≡ whole s *ℚ part_way a d t +ℚ whole h
folded_point s a d h place step t place_is step_is = (λ i. part_way (place_is i) (step_is i) t) ∙ fold_way s a d h t
