-- Laws of whole numbers that the library lacks.
use Rattle.std.proofs.Common.{◌≡◌, ℕ, ◌+◌, ◌*◌, ℤ, pos, ◌+ℤ◌, ◌*ℤ◌, neg_ℤ, ◌≤ℤ◌, ◌<ℤ◌, ◌<◌, ◌≤◌, ◌∙◌, ap, arith}
use Rattle.std.proofs.Math.IntN.{*ℤ_comm}
use Rattle.std.proofs.lemmas.Int.{ints, by_lt_z}
use Rattle.std.proofs.Math.Nat.{mul-le-mul_right}
use borrow.Author.Differences.{up, down, sum_is_lem, neg_is, product_is, same_in, same_out, le_in, le_out, below_in, at_most_in, lt_out}

-- laws of the order and of equality, for sums whose products stay as they are
pub ruleset sums = (same_in, same_out, sum_is_lem, neg_is, le_in, le_out, below_in, at_most_in, lt_out)

pub mul_one_ℤ : (z : ℤ) → z *ℤ pos 1 ≡ z
mul_one_ℤ z = omega (arith, ints)

-- a product with a sum is the sum of the products
pub mul-add_left : (a b c : ℤ) → (a +ℤ b) *ℤ c ≡ a *ℤ c +ℤ b *ℤ c
mul-add_left a b c =
    let ups = ap (λ n. n * up c) (sum_is_lem a b) in
    let downs = ap (λ n. n * down c) (sum_is_lem a b) in
    omega (arith, ints, ups, downs)

pub mul-add_right : (a b c : ℤ) → a *ℤ (b +ℤ c) ≡ a *ℤ b +ℤ a *ℤ c
mul-add_right a b c = *ℤ_comm a (b +ℤ c) ∙ mul-add_left b c a ∙ (λ i. *ℤ_comm b a i +ℤ *ℤ_comm c a i)

-- products may be grouped either way
pub mul_assoc_ℤ : (a b c : ℤ) → (a *ℤ b) *ℤ c ≡ a *ℤ (b *ℤ c)
mul_assoc_ℤ a b c =
    let left = product_is a b in
    let right = product_is b c in
    let left_up = ap (λ n. n * up c) left.0 in
    let left_down = ap (λ n. n * down c) left.1 in
    let left_up_down = ap (λ n. n * down c) left.0 in
    let left_down_up = ap (λ n. n * up c) left.1 in
    let right_up = ap (λ n. up a * n) right.0 in
    let right_down = ap (λ n. down a * n) right.1 in
    let right_up_down = ap (λ n. up a * n) right.1 in
    let right_down_up = ap (λ n. down a * n) right.0 in
    omega (arith, same_in, product_is (a *ℤ b) c, product_is a (b *ℤ c))

-- the first two factors change places
pub mul_swap : (a b c : ℤ) → a *ℤ (b *ℤ c) ≡ b *ℤ (a *ℤ c)
mul_swap a b c = *ℤ_comm a (b *ℤ c) ∙ mul_assoc_ℤ b c a ∙ ap (λ z. b *ℤ z) (*ℤ_comm c a)

-- a product with two natural numbers is that with their product
pub mul_pos_pos : (a : ℤ) (m n : ℕ) → (a *ℤ pos m) *ℤ pos n ≡ a *ℤ pos (m * n)
mul_pos_pos a m n = mul_assoc_ℤ a (pos m) (pos n)

-- products with a natural number keep the order
pub mul_le_ℤ : (a b : ℤ) (n : ℕ) → a ≤ℤ b → (a *ℤ pos n) ≤ℤ (b *ℤ pos n)
mul_le_ℤ a b n below =
    let order : up a + down b ≤ up b + down a = omega (arith, ints) in
    omega (arith, ints, mul-le-mul_right n order)

-- and they grow by that number at least where the first factor grows
pub mul_lt_ℤ : (a b : ℤ) (n : ℕ) → a <ℤ b → (a *ℤ pos n +ℤ pos n) ≤ℤ (b *ℤ pos n)
mul_lt_ℤ a b n below =
    let order : up a + down b + 1 ≤ up b + down a = omega (arith, ints) in
    omega (arith, ints, mul-le-mul_right n order)

-- a factor above 0 can be left out of an order
pub cancel_mul_ℤ : (a b : ℤ) (n : ℕ) → 0 < n → (a *ℤ pos n) ≤ℤ (b *ℤ pos n) → a ≤ℤ b
cancel_mul_ℤ a b n positive below =
    by_lt_z b a (λ above. let grown = mul_lt_ℤ b a n above in absurd (omega (arith, sums))) (λ fine. fine)

-- a factor's sign can be taken out
pub mul-neg_right : (a b : ℤ) → a *ℤ neg_ℤ b ≡ neg_ℤ (a *ℤ b)
mul-neg_right a b =
    let negated = neg_is b in
    let product = rw (negated.0, negated.1) at (product_is a (neg_ℤ b)) in
    omega (arith, same_in, neg_is, product, product_is a b)
