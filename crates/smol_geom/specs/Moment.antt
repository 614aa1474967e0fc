-- Moments of a move: at which part of the move a molecule is on an even coordinate of an axis.
use Rattle.std.specs.Prelude.{◌<◌, ◌≤◌, ◌^◌, ◌⊎◌, pos}
use Rattle.smol_geom.specs.declared.moment.Moment.{Moment}
use Rattle.smol_geom.specs.Fraction.{Fraction, ◌<ℚ◌, ◌≈ℚ◌}

-- the part of the move that is made at the moment
abbrev pub part_of : Moment → Fraction
part_of m = record { num = pos m.num; den = m.den }

-- the moment lies strictly within its move, which has at most 2^34 ticks on an axis
pub record IsPart (m : Moment) : Type 0 where
  pub begun : 0 < m.num
  pub unfinished : m.num < m.den
  pub den : m.den ≤ 2 ^ 34

-- the first moment comes before the second: by the part of the move, and at one part by the axis
abbrev pub IsBefore : Moment → Moment → Type 0
IsBefore a b = (part_of a <ℚ part_of b) ⊎ ((part_of a ≈ℚ part_of b) × (a.axis < b.axis))
