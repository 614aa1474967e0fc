-- How large a scaled sum of draws can be.
use Rattle.std.proofs.Common.{ℕ, ◌+◌, ◌*◌, ◌≤◌, ℤ, pos, negsuc, ◌+ℤ◌, ◌*ℤ◌, unsigned_abs, arith}
use Rattle.std.proofs.lemmas.Int.{ints, unsigned_abs-mul}
use Rattle.std.proofs.lemmas.Nat.{mul-le}
use Rattle.smol_geom.specs.Axes.{IsEven}
use Rattle.smol_streams.specs.Displacement.{floor_of, scaled}

-- the size of a number that is divided by 65536 and rounded down
floor_size : (z : ℤ) (k : ℕ) → unsigned_abs z ≤ 65536 * k + 65535 → unsigned_abs (floor_of z 65536) ≤ k + 1
floor_size (pos a) k small = omega arith
floor_size (negsuc a) k small = omega arith

-- the size of a sum of a product and half the deviation
sum_size : (z : ℤ) (k : ℕ) → unsigned_abs z ≤ k → unsigned_abs (z +ℤ pos 32768) ≤ k + 32768
sum_size z k small = omega (arith, ints)

-- the product of a centred sum and a difstep
pub product_size : (g : ℤ) (s : ℕ) → unsigned_abs g ≤ 393210 → unsigned_abs (pos s *ℤ g) ≤ s * 393210
product_size g s small = omega (arith, unsigned_abs-mul (pos s) g, mul-le s (unsigned_abs g) s 393210 (omega arith) small)

-- a scaled number is at most twelve difsteps large, and two ticks for rounding
pub scaled_size : (g : ℤ) (s : ℕ) → unsigned_abs g ≤ 393210 → unsigned_abs (scaled g s) ≤ 12 * s + 2
scaled_size g s small =
    let product : unsigned_abs (pos s *ℤ g) ≤ s * 393210 =
    omega (arith, unsigned_abs-mul (pos s) g, mul-le s (unsigned_abs g) s 393210 (omega arith) small) in
    let rounded = floor_size (pos s *ℤ g +ℤ pos 32768) (6 * s) (omega (arith, sum_size (pos s *ℤ g) (s * 393210) product)) in
    omega (arith, unsigned_abs-mul (pos 2) (floor_of (pos s *ℤ g +ℤ pos 32768) 65536), rounded)

pub scaled_even : (g : ℤ) (s : ℕ) → IsEven (scaled g s)
scaled_even g s = omega (arith, unsigned_abs-mul (pos 2) (floor_of (pos s *ℤ g +ℤ pos 32768) 65536))
