-- In which bin a coordinate is.
use Rattle.std.proofs.Common.{◌≡◌, ◌<◌, ◌*◌, ◌/◌, ◌==◌, ◌&&◌, ℕ, true, false, ℤ, ◌-ℤ◌, ◌<ℤ◌, ◌≤ℤ◌, unsigned_abs, arith, ap}
use Rattle.std.proofs.Math.Nat.{div-lt_iff_lt-mul, mul-lt-mul_of_pos_right}
use Rattle.std.proofs.lemmas.Int.{ints}
use Rattle.smol_stats.specs.Bins.{bin_number, is_between, is_in_bin}

pub between : (low high x : ℤ) → low <ℤ x → x <ℤ high → is_between low high x ≡ true
between low high x above below = grind (arith, ints)

pub not_above : (low high x : ℤ) → x ≤ℤ low → is_between low high x ≡ false
not_above low high x below = grind (arith, ints)

pub not_below : (low high x : ℤ) → high ≤ℤ x → is_between low high x ≡ false
not_below low high x above = grind (arith, ints)

-- a part of the whole gives a lower number
part_below : (part whole n : ℕ) → part < whole → 0 < n → part * n / whole < n
part_below part whole n below some =
    let lower : part * n < whole * n = mul-lt-mul_of_pos_right below some in
    let turned : part * n < n * whole = omega (arith, lower) in
    (div-lt_iff_lt-mul (omega (arith, below))).1 turned

pub in_its_bin : (low high x : ℤ) (n a w : ℕ) → low <ℤ x → x <ℤ high → 0 < n → a ≡ unsigned_abs (x -ℤ low) → w ≡ unsigned_abs (high -ℤ low) → (a * n / w < n) × ((k : ℕ) → is_in_bin low high n k x ≡ (a * n / w == k))
in_its_bin low high x n a w above below some is_a is_w =
    let shorter : unsigned_abs (x -ℤ low) < unsigned_abs (high -ℤ low) = omega (arith, ints) in
    rw (is_a, is_w) (part_below (unsigned_abs (x -ℤ low)) (unsigned_abs (high -ℤ low)) n shorter some, λ k. ap (λ b. b && (bin_number low high n x == k)) (between low high x above below))

pub in_no_bin : (low high x : ℤ) (n k : ℕ) → is_between low high x ≡ false → is_in_bin low high n k x ≡ false
in_no_bin low high x n k out = ap (λ b. b && (bin_number low high n x == k)) out
