-- A fact on each axis holds on any axis.
use Rattle.std.proofs.Common.{ℕ, zero, suc, ◌<◌, arith}
use Rattle.smol_geom.specs.Axes.{EachAxis}

pub at_axis : (P : ℕ → Type 0) (axis : ℕ) → axis < 3 → EachAxis P → P axis
at_axis P zero below each = each.0
at_axis P (suc zero) below each = each.1
at_axis P (suc (suc zero)) below each = each.2
at_axis P (suc (suc (suc axis))) below each = absurd (omega arith)
