-- How large bounded numbers and their products can be.
use Rattle.std.proofs.Common.{◌≡◌, ℕ, ◌*◌, ◌^◌, ◌<◌, ◌≤◌, List, ℤ, pos, ◌*ℤ◌, unsigned_abs, FitsSigned, w64, arith}
use Rattle.std.proofs.lemmas.Int.{unsigned_abs-mul, fits_signed_from_abs}
use Rattle.std.proofs.lemmas.Nat.{mul-le}
use Rattle.smol_geom.specs.Axes.{on_axis, IsWithin}
use Rattle.smol_geom.proofs.EachAxis.{at_axis}

-- the square of a number of size up to 2^59
pub square_size : (g : ℕ) → g ≤ 2 ^ 59 → g * g ≤ 2 ^ 118
square_size g small = mul-le g g (2 ^ 59) (2 ^ 59) small small

-- the product r of two numbers of size up to 2^60
pub product_size : (r a : ℤ) (n : ℕ) → r ≡ a *ℤ pos n → unsigned_abs a ≤ 2 ^ 60 → n ≤ 2 ^ 60 → unsigned_abs r ≤ 2 ^ 120
product_size r a n is small_a small_n =
    rw is (omega (arith, unsigned_abs-mul a (pos n), mul-le (unsigned_abs a) n (2 ^ 60) (2 ^ 60) small_a small_n))

-- a number of size up to 2^60 fits 64 bits
pub small_fits : (z : ℤ) → unsigned_abs z ≤ 2 ^ 60 → FitsSigned w64 z
small_fits z small = fits_signed_from_abs w64 z (omega arith)

-- the size on an axis, where each axis has one
pub size_on : (numbers : List ℤ) (axis : ℕ) → axis < 3 → IsWithin (2 ^ 58) numbers → unsigned_abs (on_axis numbers axis) ≤ 2 ^ 60
size_on numbers axis below within =
    let small = at_axis (λ i. unsigned_abs (on_axis numbers i) ≤ 2 ^ 58) axis below within in
    omega arith
