-- Walls that a configuration may have, and coordinates between them.
use Rattle.std.specs.Prelude.{◌≡◌, ℕ, ◌+◌, ◌%◌, ◌≤◌, ℤ, pos, ◌<ℤ◌, true, false, List, [], ◌∷◌, unsigned_abs}
use Rattle.smol_types.specs.declared.wall.Wall.{Wall}
use Rattle.smol_types.specs.declared.placing.Given.{Given}
use Rattle.smol_types.specs.declared.placing.Given.TheVariants.{Any, At}
use Rattle.smol_types.specs.Limits.{farthest}

-- the lower and the upper wall of an axis: even planes within the lengths there are, the lower one below the upper
pub record IsAxis (number : ℕ) (lower upper : Wall) : Type 0 where
  pub lower_axis : lower.axis ≡ number
  pub upper_axis : upper.axis ≡ number
  pub lower_side : lower.upper ≡ false
  pub upper_side : upper.upper ≡ true
  pub lower_even : unsigned_abs lower.plane % 2 ≡ 0
  pub upper_even : unsigned_abs upper.plane % 2 ≡ 0
  pub lower_size : unsigned_abs lower.plane ≤ farthest
  pub upper_size : unsigned_abs upper.plane ≤ farthest
  pub ordered : lower.plane <ℤ upper.plane

-- a lower and an upper wall for each axis from this number on, and no others
abbrev pub AreWalls : ℕ → List Wall → Type 0
AreWalls axis [] = Unit {0}
AreWalls axis (lower ∷ []) = ⊥
AreWalls axis (lower ∷ upper ∷ walls) = IsAxis axis lower upper × AreWalls (axis + 1) walls

-- an odd coordinate lies between two walls
pub record LiesBetween (lower upper : Wall) (x : ℤ) : Type 0 where
  pub odd : unsigned_abs x % 2 ≡ 1
  pub above : lower.plane <ℤ x
  pub below : x <ℤ upper.plane

-- a coordinate that is given lies between two walls. One that is to be drawn will
abbrev pub IsGiven : Wall → Wall → Given → Type 0
IsGiven lower upper Any = Unit {0}
IsGiven lower upper (At x) = LiesBetween lower upper x

-- each given coordinate lies between the walls of its axis. On an axis that isn't in use it is 1
abbrev pub AreGiven : List Wall → List Given → Type 0
AreGiven [] [] = Unit {0}
AreGiven [] (Any ∷ given) = ⊥
AreGiven [] (At x ∷ given) = (x ≡ pos 1) × AreGiven [] given
AreGiven (lower ∷ []) given = ⊥
AreGiven (lower ∷ upper ∷ walls) [] = ⊥
AreGiven (lower ∷ upper ∷ walls) (x ∷ given) = IsGiven lower upper x × AreGiven walls given

-- each coordinate lies between the walls of its axis. On an axis that isn't in use it is 1
abbrev pub AreBetween : List Wall → List ℤ → Type 0
AreBetween [] [] = Unit {0}
AreBetween [] (x ∷ xs) = (x ≡ pos 1) × AreBetween [] xs
AreBetween (lower ∷ []) xs = ⊥
AreBetween (lower ∷ upper ∷ walls) [] = ⊥
AreBetween (lower ∷ upper ∷ walls) (x ∷ xs) = LiesBetween lower upper x × AreBetween walls xs
