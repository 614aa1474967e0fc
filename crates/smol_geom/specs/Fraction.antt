-- Fractions of whole numbers.
use Rattle.std.specs.Prelude.{◌≡◌, ℕ, ◌*◌, ◌<◌, ℤ, pos, ◌+ℤ◌, ◌*ℤ◌, ◌≤ℤ◌, ◌<ℤ◌}

-- a whole number over a natural number
pub record Fraction : Type 0 where
  pub num : ℤ
  pub den : ℕ

-- the fraction is a number: what it is divided by isn't 0
abbrev pub IsNumber : Fraction → Type 0
IsNumber t = 0 < t.den

-- a whole number as a fraction
abbrev pub whole : ℤ → Fraction
whole z = record { num = z; den = 1 }

infixl 6 ◌+ℚ◌
-- the sum of two fractions
abbrev pub ◌+ℚ◌ : Fraction → Fraction → Fraction
s +ℚ t = record { num = s.num *ℤ pos t.den +ℤ t.num *ℤ pos s.den; den = s.den * t.den }

infixl 7 ◌*ℚ◌
-- the product of two fractions
abbrev pub ◌*ℚ◌ : Fraction → Fraction → Fraction
s *ℚ t = record { num = s.num *ℤ t.num; den = s.den * t.den }

infix 5 ◌≤ℚ◌ ◌<ℚ◌ ◌≈ℚ◌
-- the first is at most the second
abbrev pub ◌≤ℚ◌ : Fraction → Fraction → Type 0
s ≤ℚ t = (s.num *ℤ pos t.den) ≤ℤ (t.num *ℤ pos s.den)

-- the first is less than the second
abbrev pub ◌<ℚ◌ : Fraction → Fraction → Type 0
s <ℚ t = (s.num *ℤ pos t.den) <ℤ (t.num *ℤ pos s.den)

-- both are one number
abbrev pub ◌≈ℚ◌ : Fraction → Fraction → Type 0
s ≈ℚ t = s.num *ℤ pos t.den ≡ t.num *ℤ pos s.den
