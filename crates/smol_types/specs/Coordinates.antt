-- Coordinates of molecules and points.
use Rattle.std.specs.Prelude.{◌≡◌, ℕ, zero, suc, ◌%◌, ◌≤◌, ℤ, pos, List, [], ◌∷◌, unsigned_abs}

-- coordinates are odd and of this size at most on the first axes, and 1 on the axes that aren't in use
abbrev pub AreCoordinates : ℕ → ℕ → List ℤ → Type 0
AreCoordinates size dims [] = Unit {0}
AreCoordinates size zero (x ∷ xs) = (x ≡ pos 1) × AreCoordinates size zero xs
AreCoordinates size (suc dims) (x ∷ xs) = (unsigned_abs x % 2 ≡ 1) × (unsigned_abs x ≤ size) × AreCoordinates size dims xs
