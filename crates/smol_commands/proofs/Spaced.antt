-- Coordinates behind spaces.
use Rattle.std.proofs.Common.{◌≡◌, ◌<◌, ◌++◌, ℕ, zero, suc, ℤ, List, [], ◌∷◌, length, take, drop, codes, refl, arith}
use Rattle.smol_meaning.specs.Lines.{coordinates_text}

-- a space and the coordinates with one space between each two are the coordinates, each behind a space
pub space_before : (dims : ℕ) (numbers : List ℤ) → 0 < dims → 0 < length numbers
    → codes " " ++ drop 1 (coordinates_text (take dims numbers)) ≡ coordinates_text (take dims numbers)
space_before zero numbers used some = absurd (omega (arith, used))
space_before (suc dims) [] used some = absurd (omega (arith, some))
space_before (suc dims) (x ∷ xs) used some = refl
