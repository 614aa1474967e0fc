-- Parts of a way, as the code holds them.
use Rattle.std.specs.Prelude.{◌≤◌, ◌^◌, ℤ, pos, ◌+ℤ◌, ◌*ℤ◌}
use Rattle.smol_geom.specs.declared.part.Part.{Part}
use Rattle.smol_geom.specs.Fraction.{Fraction}

-- the part as a fraction
abbrev pub fraction_of : Part → Fraction
fraction_of p = record { num = pos p.num; den = p.den }

-- both numbers are small enough for products with coordinates
pub record IsSmall (p : Part) : Type 0 where
  pub num : p.num ≤ 2 ^ 60
  pub den : p.den ≤ 2 ^ 60

-- the coordinate after the fraction t of a way, times the denominator of t
abbrev pub scaled_way : ℤ → ℤ → Fraction → ℤ
scaled_way start by t = start *ℤ pos t.den +ℤ t.num *ℤ by
