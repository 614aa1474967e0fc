-- In which shell a distance is.
use Rattle.std.proofs.Common.{◌≡◌, ◌≤◌, ◌<◌, ◌+◌, ◌*◌, ◌/◌, ◌==◌, ◌&&◌, ℕ, Bool, true, false, nat_le, nat_lt, arith, refl, ap, ◌∙◌}
use Rattle.std.proofs.Math.Nat.{lt-mul-div-succ, mul-div-le, mul-le-mul, mul-lt-mul_of_pos_right, mul-pos, lt_of_mul-lt-mul_left}
use Rattle.std.proofs.lemmas.Bool.Decides.{nat_tests}
use Rattle.smol_stats.specs.Radial.{is_in_shell}

square_up : (a b : ℕ) → a ≤ b → a * a ≤ b * b
square_up a b below = mul-le-mul below below

by_order : (a b : ℕ) → a * a < b * b → (is : Bool) → nat_lt a b ≡ is → a < b
by_order a b less true is = grind (arith, nat_tests)
by_order a b less false is =
    let other : b ≤ a = grind (arith, nat_tests) in absurd (omega (arith, square_up b a other, less))

-- of two numbers the one with the lesser square is less
pub root_down : (a b : ℕ) → a * a < b * b → a < b
root_down a b less = by_order a b less (nat_lt a b) refl

-- the shell of a number of parts of the reach
parts_in : (reach root v k : ℕ) → 0 < reach → root * root ≤ v → v < (root + 1) * (root + 1) → k ≡ root / reach
    → ((reach * k) * (reach * k) ≤ v) × (v < (reach * (k + 1)) * (reach * (k + 1)))
parts_in reach root v k some low high is =
    let under : reach * k ≤ root = rw is (mul-div-le root reach) in
    let over : root < reach * (k + 1) = rw is (lt-mul-div-succ root some) in
    let a = square_up (reach * k) root under in
    let b = square_up (root + 1) (reach * (k + 1)) (omega (arith, over)) in
    (omega (arith, a, low), omega (arith, b, high))

-- what is within reach is in one of n shells
few : (reach n square k : ℕ) → 0 < n → square < reach * reach → (reach * k) * (reach * k) ≤ square * (n * n) → k < n
few reach n square k parts near low =
    let wide : square * (n * n) < (reach * reach) * (n * n) = mul-lt-mul_of_pos_right near (mul-pos parts parts) in
    let same : (reach * reach) * (n * n) ≡ (reach * n) * (reach * n) = grind arith in
    lt_of_mul-lt-mul_left reach (root_down (reach * k) (reach * n) (omega (arith, low, wide, same)))

-- only one shell has it
one_shell : (reach v k j : ℕ) → (reach * k) * (reach * k) ≤ v → v < (reach * (k + 1)) * (reach * (k + 1)) → (at same : Bool) → (nat_le ((reach * j) * (reach * j)) v && nat_lt v ((reach * (j + 1)) * (reach * (j + 1)))) ≡ at → (k == j) ≡ same → at ≡ same
one_shell reach v k j low high true true is same = refl
one_shell reach v k j low high false false is same = refl
one_shell reach v k j low high false true is same =
    let e : k ≡ j = grind (arith, nat_tests) in
    let low_j : (reach * j) * (reach * j) ≤ v = rw (← e) low in
    let high_j : v < (reach * (j + 1)) * (reach * (j + 1)) = rw (← e) high in
    grind (arith, nat_tests, low_j, high_j, is)
one_shell reach v k j low high true false is same =
    let low_j : (reach * j) * (reach * j) ≤ v = grind (arith, nat_tests, is) in
    let high_j : v < (reach * (j + 1)) * (reach * (j + 1)) = grind (arith, nat_tests, is) in
    let up : reach * k < reach * (j + 1) = root_down (reach * k) (reach * (j + 1)) (omega (arith, low, high_j)) in
    let down : reach * j < reach * (k + 1) = root_down (reach * j) (reach * (k + 1)) (omega (arith, low_j, high)) in
    let a : k < j + 1 = lt_of_mul-lt-mul_left reach up in
    let b : j < k + 1 = lt_of_mul-lt-mul_left reach down in
    let e : k ≡ j = omega (arith, a, b) in
    grind (arith, nat_tests, e, same)

-- what is beyond the reach is in no shell
pub beyond : (reach n square k : ℕ) → reach * reach ≤ square → is_in_shell reach n k square ≡ false
beyond reach n square k far =
    let no : nat_lt square (reach * reach) ≡ false = grind (arith, nat_tests) in
    ap (λ b. b && (nat_le ((reach * k) * (reach * k)) (square * (n * n)) && nat_lt (square * (n * n)) ((reach * (k + 1)) * (reach * (k + 1))))) no

pub in_its_shell : (reach n square root k : ℕ) → 0 < reach → 0 < n → square < reach * reach → root * root ≤ square * (n * n) → square * (n * n) < (root + 1) * (root + 1) → k ≡ root / reach
    → (k < n) × ((j : ℕ) → is_in_shell reach n j square ≡ (k == j))
in_its_shell reach n square root k some parts near low high is =
    let v = square * (n * n) in
    let parts_are = parts_in reach root v k some low high is in
    let yes : nat_lt square (reach * reach) ≡ true = grind (arith, nat_tests) in (
      few reach n square k parts near parts_are.0,
      λ j.
          ap (λ b. b && (nat_le ((reach * j) * (reach * j)) v && nat_lt v ((reach * (j + 1)) * (reach * (j + 1))))) yes
          ∙ one_shell reach v k j parts_are.0 parts_are.1 _ (k == j) refl refl,
    )
