-- Equal fractions of a way reach one point.
use Rattle.std.proofs.Common.{◌≡◌, ℕ, ◌*◌, ◌<◌, ℤ, pos, ◌+ℤ◌, ◌*ℤ◌, ◌≤ℤ◌, ◌∙◌, sym, ap, subst, arith}
use Rattle.std.proofs.Math.IntN.{*ℤ_comm}
use Rattle.smol_geom.specs.declared.rect.Rect.{Rect}
use Rattle.smol_geom.specs.Axes.{on_axis}
use Rattle.smol_geom.specs.Fraction.{Fraction}
use Rattle.smol_geom.specs.Line.{part_way}
use Rattle.smol_geom.specs.Part.{scaled_way}
use Rattle.smol_geom.specs.Rect.{IsInRange}
use Rattle.smol_geom.proofs.Integers.{mul-add_left, mul_pos_pos, mul_le_ℤ, cancel_mul_ℤ}
use Rattle.smol_geom.proofs.Ways.{above_low, low_products, below_high, high_products}

-- the fraction of two natural numbers
abbrev pub over : ℕ → ℕ → Fraction
over n m = record { num = pos n; den = m }

-- two natural factors change places
factors_swap : (a : ℤ) (m d : ℕ) → (a *ℤ pos m) *ℤ pos d ≡ (a *ℤ pos d) *ℤ pos m
factors_swap a m d =
    let comm : m * d ≡ d * m = omega arith in
    mul_pos_pos a m d ∙ ap (λ (k : ℕ). a *ℤ pos k) comm ∙ sym (mul_pos_pos a d m)

-- the scaled ways of equal fractions are in the ratio of their denominators
scaled_alike : (start by : ℤ) (j m n d : ℕ) → n * m ≡ j * d
    → scaled_way start by (over j m) *ℤ pos d ≡ scaled_way start by (over n d) *ℤ pos m
scaled_alike start by j m n d same =
    let starts = factors_swap start m d in
    let left_way = ap (λ (z : ℤ). z *ℤ pos d) (*ℤ_comm (pos j) by) ∙ mul_pos_pos by j d in
    let right_way = ap (λ (z : ℤ). z *ℤ pos m) (*ℤ_comm (pos n) by) ∙ mul_pos_pos by n m in
    let ways = left_way ∙ ap (λ (k : ℕ). by *ℤ pos k) (sym same) ∙ sym right_way in
    mul-add_left (start *ℤ pos m) (pos j *ℤ by) (pos d) ∙ (λ i. starts i +ℤ ways i)
    ∙ sym (mul-add_left (start *ℤ pos d) (pos n *ℤ by) (pos m))

-- where a fraction of the way reaches into a range, each equal fraction does
pub same_reach : (rect : Rect) (axis : ℕ) (start by : ℤ) (j m n d : ℕ) → 0 < m → n * m ≡ j * d
    → IsInRange rect axis (part_way start by (over j m)) → IsInRange rect axis (part_way start by (over n d))
same_reach rect axis start by j m n d positive same held =
    let low = on_axis rect.low axis in
    let high = on_axis rect.high axis in
    let alike = scaled_alike start by j m n d same in
    let from_low = mul_le_ℤ (low *ℤ pos m) (scaled_way start by (over j m)) d (low_products low start by (over j m) held.low) in
    let to_high = mul_le_ℤ (scaled_way start by (over j m)) (high *ℤ pos m) d (high_products high start by (over j m) held.high) in
    let low_alike : ((low *ℤ pos d) *ℤ pos m) ≤ℤ (scaled_way start by (over n d) *ℤ pos m) =
    subst2 (factors_swap low m d) alike from_low in
    let high_alike : (scaled_way start by (over n d) *ℤ pos m) ≤ℤ ((high *ℤ pos d) *ℤ pos m) =
    subst2 alike (factors_swap high m d) to_high in
    record {
      low = above_low low start by (over n d) (cancel_mul_ℤ _ _ m positive low_alike);
      high = below_high high start by (over n d) (cancel_mul_ℤ _ _ m positive high_alike);
    }
  where
    subst2 : {a b x y : ℤ} → a ≡ b → x ≡ y → a ≤ℤ x → b ≤ℤ y
    subst2 {a} {b} {x} {y} p q h = subst (λ z. z ≤ℤ y) p (subst (λ z. a ≤ℤ z) q h)
