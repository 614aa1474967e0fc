-- What the code's products say about a part of a way.
use Rattle.std.proofs.Common.{◌≡◌, ℕ, ◌↔◌, Bool, IsTrue, ℤ, pos, ◌*ℤ◌, ◌≤ℤ◌, ◌∙◌, ap, subst, arith, to_z, of_z, w64, FitsSigned}
use Rattle.std.proofs.lemmas.Int.{ints, to_z-of_z}
use Rattle.smol_geom.specs.declared.rect.Rect.{Rect}
use Rattle.smol_geom.specs.Fraction.{Fraction, whole, ◌≤ℚ◌}
use Rattle.smol_geom.specs.Line.{part_way}
use Rattle.smol_geom.specs.Part.{scaled_way}
use Rattle.smol_geom.specs.Rect.{IsInRange}

-- the product of a coordinate that was passed to a function is that of the coordinate
pub passed_product : (r a : ℤ) (n : ℕ) → FitsSigned w64 a → r ≡ to_z w64 (of_z w64 a) *ℤ pos n → r ≡ a *ℤ pos n
passed_product r a n fits is = is ∙ ap (λ z. z *ℤ pos n) (to_z-of_z w64 a fits)

-- a coordinate is not above the one that is reached exactly where its product is not
pub above_low : (low start by : ℤ) (t : Fraction) → (low *ℤ pos t.den) ≤ℤ scaled_way start by t → whole low ≤ℚ part_way start by t
above_low low start by t h = omega (arith, ints)

pub low_products : (low start by : ℤ) (t : Fraction) → whole low ≤ℚ part_way start by t → (low *ℤ pos t.den) ≤ℤ scaled_way start by t
low_products low start by t h = omega (arith, ints)

-- a coordinate is not below the one that is reached exactly where its product is not
pub below_high : (high start by : ℤ) (t : Fraction) → scaled_way start by t ≤ℤ (high *ℤ pos t.den) → part_way start by t ≤ℚ whole high
below_high high start by t h = omega (arith, ints)

pub high_products : (high start by : ℤ) (t : Fraction) → part_way start by t ≤ℚ whole high → scaled_way start by t ≤ℤ (high *ℤ pos t.den)
high_products high start by t h = omega (arith, ints)

-- the part of a way ends between two coordinates exactly where the products are in order
pub between_products : (low high start by : ℤ) (t : Fraction) (b : Bool) (l r h : ℤ)
    → l ≡ low *ℤ pos t.den → r ≡ scaled_way start by t → h ≡ high *ℤ pos t.den
    → (IsTrue b ↔ ((l ≤ℤ r) × (r ≤ℤ h)))
    → IsTrue b ↔ ((whole low ≤ℚ part_way start by t) × (part_way start by t ≤ℚ whole high))
between_products low high start by t b l r h is_l is_r is_h ordered =
    let products : IsTrue b ↔ (((low *ℤ pos t.den) ≤ℤ scaled_way start by t) × (scaled_way start by t ≤ℤ (high *ℤ pos t.den))) =
    rw (is_l, is_r, is_h) at ordered in (
      λ yes. let o = products.0 yes in (above_low low start by t o.0, below_high high start by t o.1),
      λ between. products.1 (low_products low start by t between.0, high_products high start by t between.1),
    )

-- equal coordinates are in the same ranges
pub same_range : (rect : Rect) (axis : ℕ) (x y : Fraction) → x ≡ y → IsInRange rect axis x → IsInRange rect axis y
same_range rect axis x y same held = subst (λ z. IsInRange rect axis z) same held
