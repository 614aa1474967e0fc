-- Which of three ways meets its bound first.
use Rattle.std.proofs.Common.{⊎_elim, ◌≡◌, ℕ, zero, suc, ◌+◌, ◌*◌, ◌<◌, ◌≤◌, ◌⊎◌, inl, inr, sym, subst, arith}
use Rattle.std.proofs.Math.Nat.{mul-le-mul_left, mul-le-mul_right}
use Rattle.std.proofs.lemmas.Bool.{cases_eq, cases_lt}

-- a way that has room enough is within it at each part n / d of the way
with_room : (r m n d : ℕ) → m ≤ r → n ≤ d → n * m ≤ r * d
with_room r m n d enough part =
    let first = mul-le-mul_right m part in
    let second = mul-le-mul_left d enough in
    omega (arith, first, second)

-- of fractions in order the first is at most the last
in_order : (a b c d e f : ℕ) → 0 < d → a * d ≤ c * b → c * f ≤ e * d → a * f ≤ e * b
in_order a b c d e f some first second =
    ⊎_elim (λ (wrong : e * b < a * f). absurd (no wrong)) (λ (fine : a * f ≤ e * b). fine) (cases_lt (e * b) (a * f))
  where
    no : e * b < a * f → ⊥
    no wrong =
        let w : (e * b + 1) * d ≤ (a * f) * d = mul-le-mul_right d (omega (arith, wrong)) in
        let f_first = mul-le-mul_right f first in
        let b_second = mul-le-mul_right b second in
        omega (arith, w, f_first, b_second, some)

-- on the axes a way goes so far, and has so much room
module _ (room far : ℕ → ℕ) where
  -- of these axes, this one's bound is met, and no other's before
  pub record IsFirst (count j : ℕ) : Type 0 where
    pub among : j < count
    pub short : room j < far j
    pub first : (k : ℕ) → k < count → room j * far k ≤ room k * far j

  abbrev AllRoom : ℕ → Type 0
  AllRoom count = (k : ℕ) → k < count → far k ≤ room k

  below_suc : (P : ℕ → Type 0) (i : ℕ) → ((k : ℕ) → k < i → P k) → P i → (k : ℕ) → k < i + 1 → P k
  below_suc P i below here k l = ⊎_elim
      (λ (same : k ≡ i). subst P (sym same) here)
      (λ (other : k ≡ i → ⊥). below k (omega (arith, l, other)))
      (cases_eq k i)

  -- there is room on all axes, or one bound is met first
  pub meets_first : (count : ℕ) → AllRoom count ⊎ ((j : ℕ) × IsFirst count j)
  meets_first zero = inl (λ k l. absurd (omega arith))
  meets_first (suc i) = by_rest (meets_first i) (cases_lt (room i) (far i))
    where
      widened : (j : ℕ) → j < suc i → room j < far j → ((k : ℕ) → k < i + 1 → room j * far k ≤ room k * far j) → (j : ℕ) × IsFirst (suc i) j
      widened j among short first = (j, record { among = among; short = short; first = λ k l. first k (omega arith) })

      by_rest : AllRoom i ⊎ ((j : ℕ) × IsFirst i j) → (room i < far i) ⊎ (far i ≤ room i) → AllRoom (suc i) ⊎ ((j : ℕ) × IsFirst (suc i) j)
      by_rest (inl all) (inr enough) = inl (λ k l. below_suc (λ k. far k ≤ room k) i all enough k (omega arith))
      by_rest (inl all) (inl short) = inr
          (widened i (omega arith) short
          (below_suc (λ k. room i * far k ≤ room k * far i) i (λ k l. with_room (room k) (far k) (room i) (far i) (all k l) (omega (arith, short))) (omega arith)))
      by_rest (inr found) (inr enough) =
          let j = found.0 in
          let is = found.1 in
          let short = is.short in
          inr (widened j (let among = is.among in omega arith) short
          (below_suc (λ k. room j * far k ≤ room k * far j) i is.first (with_room (room i) (far i) (room j) (far j) enough (omega arith))))
      by_rest (inr found) (inl short_here) =
          let j = found.0 in
          let is = found.1 in
          let short = is.short in
          ⊎_elim
          (λ (earlier : room i * far j < room j * far i). inr
          (widened i (omega arith) short_here
          (below_suc (λ k. room i * far k ≤ room k * far i) i
          (λ k l. in_order (room i) (far i) (room j) (far j) (room k) (far k) (omega (arith, short)) (omega (arith, earlier)) (is.first k l)) (omega arith))))
          (λ (later : room j * far i ≤ room i * far j). inr
          (widened j (let among = is.among in omega arith) short (below_suc (λ k. room j * far k ≤ room k * far j) i is.first later)))
          (cases_lt (room i * far j) (room j * far i))
