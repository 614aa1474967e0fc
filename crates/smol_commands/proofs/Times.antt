-- The time after the last step stays within the numbers there are.
use Rattle.std.proofs.Common.{◌≡◌, ℕ, ◌+◌, ◌-◌, ◌*◌, ◌≤◌, ℤ, pos, negsuc, ◌<ℤ◌, ◌+ℤ◌, ◌*ℤ◌, unsigned_abs, arith, to_z, of_z, w64, refl, sym, ap, ◌∙◌}
use Rattle.std.proofs.lemmas.Int.{ints}
use Rattle.std.proofs.Math.Nat.{div-mul-le_self}
use Rattle.std.specs.Int.{int_gap}
use Rattle.smol_types.specs.Steps.{last_step, time_at}

gap_size : (a b : ℤ) → unsigned_abs a ≤ 1000000000000000000 → unsigned_abs b ≤ 1000000000000000000 → int_gap a b ≤ 2000000000000000000
gap_size (pos a) (pos b) small_a small_b = omega arith
gap_size (pos a) (negsuc b) small_a small_b = omega arith
gap_size (negsuc a) (pos b) small_a small_b = omega arith
gap_size (negsuc a) (negsuc b) small_a small_b = omega arith

-- the steps of a run take no longer than the time between its start and its stop and one step more
pub steps_size : (start stop step : ℤ) → unsigned_abs start ≤ 1000000000000000000 → unsigned_abs stop ≤ 1000000000000000000 → unsigned_abs step ≤ 1000000000000000000 → last_step start stop step * unsigned_abs step ≤ 3000000000000000000
steps_size start stop step small_start small_stop small_step =
    omega (arith, div-mul-le_self (int_gap start stop + (unsigned_abs step - 1)) (unsigned_abs step), gap_size start stop small_start small_stop)

-- a number above 0 is its size
pub above_is_size : (x : ℤ) → pos 0 <ℤ x → x ≡ pos (unsigned_abs x)
above_is_size x above = omega (arith, ints)

-- the sum that is computed is the sum
sum_is : (start : ℤ) (n : ℕ) → unsigned_abs start ≤ 1000000000000000000 → n ≤ 3000000000000000000 → to_z w64 (of_z w64 (to_z w64 (of_z w64 start) +ℤ to_z w64 n)) ≡ start +ℤ pos n
sum_is start n small_start small = omega (arith, ints)

-- the time after some steps, each as long as the step
pub time_is : (start step : ℤ) (steps p q : ℕ) → p ≡ steps → q ≡ unsigned_abs step → pos 0 <ℤ step → unsigned_abs start ≤ 1000000000000000000 → steps * unsigned_abs step ≤ 3000000000000000000 → to_z w64 (of_z w64 (to_z w64 (of_z w64 start) +ℤ to_z w64 (p * q))) ≡ time_at start step steps
time_is start step steps p q p_is q_is above small_start small =
    let product : p * q ≡ steps * unsigned_abs step = rw (p_is, q_is) refl in
    sum_is start (p * q) small_start (rw product small)
    ∙ ap (λ (n : ℕ). start +ℤ pos n) product
    ∙ ap (λ (x : ℤ). start +ℤ (pos steps *ℤ x)) (sym (above_is_size step above))
