-- When a step may be made.
use Rattle.std.specs.Prelude.{ℕ, ◌≤◌}

-- a number that a step may have, and as many workers as there may be
pub record IsTurn (k workers : ℕ) : Type 0 where
  pub step : k ≤ 4000000
  pub least : 1 ≤ workers
  pub most : workers ≤ 16
