-- The root by its squares is the root by looking for it.
use Rattle.std.proofs.Common.{◌≡◌, ℕ, zero, suc, ◌+◌, ◌*◌, ◌-◌, ◌≤◌, ◌<◌, nat_le, true, false, arith, refl, sym, ◌∙◌, ap}
use Rattle.std.proofs.lemmas.Bool.Decides.{nat_tests}
use Rattle.std.proofs.lemmas.Nat.{mul-le}
use Rattle.smol_num.specs.Root.{root_up_to, floor_root}

-- a number whose square is no more than v is found where the search begins at it
found_there : (v r : ℕ) → r * r ≤ v → root_up_to v r ≡ r
found_there v zero fits = refl
found_there v (suc r) fits =
    let yes : nat_le (suc r * suc r) v ≡ true = grind (arith, nat_tests) in rw yes refl

-- and where it begins above, if the next square is more
found_below : (v r n : ℕ) → r * r ≤ v → v < (r + 1) * (r + 1) → root_up_to v (n + r) ≡ r
found_below v r zero fits more = ap (root_up_to v) (omega arith) ∙ found_there v r fits
found_below v r (suc n) fits more =
    let above : (r + 1) * (r + 1) ≤ suc (n + r) * suc (n + r) = mul-le (r + 1) (r + 1) (suc (n + r)) (suc (n + r)) (omega arith) (omega arith) in
    let no : nat_le (suc (n + r) * suc (n + r)) v ≡ false = grind (arith, nat_tests) in
    let next : suc n + r ≡ suc (n + r) = omega arith in
    ap (root_up_to v) next ∙ rw no (found_below v r n fits more)

root_is_less : (v r : ℕ) → r * r ≤ v → (n : ℕ) × (v ≡ n + r)
root_is_less v zero fits = (v, omega arith)
root_is_less v (suc r) fits =
    let step : suc r ≤ v = omega (arith, mul-le 1 (suc r) (suc r) (suc r) (omega arith) (omega arith)) in (v - suc r, omega arith)

-- the root of v is the number whose square is no more than v, and the next square is more
pub root_is : (v r : ℕ) → r * r ≤ v → v < (r + 1) * (r + 1) → r ≡ floor_root v
unfolding floor_root
root_is v r fits more =
    let gap = root_is_less v r fits in
    sym (ap (root_up_to v) gap.1 ∙ found_below v r gap.0 fits more)
