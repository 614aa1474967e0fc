-- The opening of output files, in their order.
use Rattle.std.specs.Prelude.{◌≡◌, ℕ, List, ◌++◌, take}
use Rattle.smol_edge.specs.Outlets.{Written}

-- these names were opened, and no byte was written
pub record OpensAll (names : List (List ℕ)) (before after : Written) : Type 0 where
  pub names_are : after.names ≡ before.names ++ names
  pub bytes : (outlet : ℕ) → after.bytes outlet ≡ before.bytes outlet

-- a front of these names was opened, and no byte was written
pub record OpensFront (names : List (List ℕ)) (before after : Written) : Type 0 where
  pub count : ℕ
  pub opens : OpensAll (take count names) before after
