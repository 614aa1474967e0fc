-- Signed numbers as they stand in words.
use Rattle.std.proofs.Common.{◌≡◌, ℕ, ◌^◌, ◌≤◌, sym, subst, arith, w64, to_z, of_z}
use Rattle.std.specs.Prelude.{ℤ, ◌-ℤ◌, ◌≤ℤ◌, unsigned_abs}
use Rattle.std.proofs.lemmas.Int.{ints}

plain : (z : ℤ) → unsigned_abs z ≤ 2 ^ 57 → to_z w64 (of_z w64 z) ≡ z
plain z small = omega (arith, ints)

-- how large they are
pub plain_small : (z : ℤ) → unsigned_abs z ≤ 2 ^ 57 → unsigned_abs (to_z w64 (of_z w64 z)) ≤ 2 ^ 57
plain_small z small = subst (λ y. unsigned_abs y ≤ 2 ^ 57) (sym (plain z small)) small

-- one on each side of a third
pub plain_ordered : (low x high : ℤ) → unsigned_abs low ≤ 2 ^ 57 → unsigned_abs high ≤ 2 ^ 57 → low ≤ℤ x → x ≤ℤ high
    → to_z w64 (of_z w64 low) ≤ℤ to_z w64 (of_z w64 high)
plain_ordered low x high small_low small_high below above =
    let up : low ≤ℤ high = omega (arith, ints) in
    subst (λ y. to_z w64 (of_z w64 low) ≤ℤ y) (sym (plain high small_high)) (subst (λ y. y ≤ℤ high) (sym (plain low small_low)) up)

-- one that is at most each number within reach, or at least
pub plain_least : (x y low : ℤ) (reach : ℕ) → unsigned_abs x ≤ 2 ^ 57 → unsigned_abs y ≤ 2 ^ 57 → unsigned_abs low ≤ 2 ^ 57
    → ((z : ℤ) → unsigned_abs z ≤ 2 ^ 57 → unsigned_abs (to_z w64 (of_z w64 x) -ℤ z) ≤ reach → low ≤ℤ z) → unsigned_abs (x -ℤ y) ≤ reach
    → to_z w64 (of_z w64 low) ≤ℤ y
plain_least x y low reach small_x small_y small_low least near =
    subst (λ z. z ≤ℤ y) (sym (plain low small_low)) (least y small_y (subst (λ z. unsigned_abs (z -ℤ y) ≤ reach) (sym (plain x small_x)) near))

pub plain_greatest : (x y high : ℤ) (reach : ℕ) → unsigned_abs x ≤ 2 ^ 57 → unsigned_abs y ≤ 2 ^ 57 → unsigned_abs high ≤ 2 ^ 57
    → ((z : ℤ) → unsigned_abs z ≤ 2 ^ 57 → unsigned_abs (to_z w64 (of_z w64 x) -ℤ z) ≤ reach → z ≤ℤ high) → unsigned_abs (x -ℤ y) ≤ reach
    → y ≤ℤ to_z w64 (of_z w64 high)
plain_greatest x y high reach small_x small_y small_high greatest near =
    subst (λ z. y ≤ℤ z) (sym (plain high small_high)) (greatest y small_y (subst (λ z. unsigned_abs (z -ℤ y) ≤ reach) (sym (plain x small_x)) near))
