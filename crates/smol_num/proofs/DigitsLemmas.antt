-- The value of a run of digits, from its first digit on.
use Rattle.std.proofs.Common.{Bool, drop, ◌==◌, ◌&&◌, pow-add, sym, refl, inl, inr, leb, ◌≡◌, ℕ, ◌+◌, ◌-◌, ◌*◌, ◌^◌, ◌<◌, ◌≤◌, true, List, [], ◌∷◌, ◌++◌, length, take, get_or, ap, ◌∙◌, arith, rules, add-one}
use Rattle.std.specs.List.{list_all}
use Rattle.std.proofs.lemmas.List.Folds.{list_all-append}
use Rattle.std.proofs.lemmas.List.{take-append-drop, take_more, length-take-le, length-append}
use Rattle.std.proofs.lemmas.Str.Parse.{IsDigitsTest, WeighsDigits, IsNumeralModel, numerals_by_weight, digits_value_short}
use Rattle.std.proofs.lemmas.Bool.{and_parts, leb-true, cases_eq, eq-eqb, ne_eqb}
use Rattle.std.proofs.lemmas.Nat.{mul-le}
use Rattle.std.proofs.Math.Nat.{pow-suc, one-le-pow}
use Rattle.smol_num.specs.Digits.{is_digit, digits_value}

digits_test : IsDigitsTest (λ ds. list_all is_digit ds ≡ true)
digits_test = search rules

digits_weighed : WeighsDigits digits_value
digits_weighed = search rules

-- the test and the value are those of std's decimal numerals
pub digits_model : IsNumeralModel (λ ds. list_all is_digit ds ≡ true) digits_value
digits_model = numerals_by_weight _ digits_test _ digits_weighed

-- one more digit at the end
pub digits_value_push : (ds : List ℕ) (b : ℕ) → digits_value (ds ++ b ∷ []) ≡ digits_value ds * 10 + (b - 48)
digits_value_push [] b = omega arith
digits_value_push (d ∷ ds) b =
    let size : length (ds ++ b ∷ []) ≡ length ds + 1 = length-append ds (b ∷ []) in
    let power : 10 ^ length (ds ++ b ∷ []) ≡ 10 ^ length ds * 10 = ap (λ n. 10 ^ n) size ∙ (rw add-one (pow-suc 10 (length ds))) in
    rw power (rw (digits_value_push ds b) (omega arith))

pub digits_value_more : (ds : List ℕ) (i : ℕ) → i < length ds → digits_value (take (i + 1) ds) ≡ digits_value (take i ds) * 10 + (get_or ds i 0 - 48)
digits_value_more ds i within = ap digits_value (take_more ds i 0 within) ∙ digits_value_push (take i ds) (get_or ds i 0)

-- the value of the digits before the last fits where there are at most 38
pub digits_value-take-lt : (ds : List ℕ) (i : ℕ) → i < length ds → length ds ≤ 38 → list_all is_digit (take i ds) ≡ true → digits_value (take i ds) < 10 ^ 37
digits_value-take-lt ds i within few all =
    digits_value_short digits_model (take i ds) 37 all (omega (arith, length-take-le i ds (omega arith)))

-- three digits at most
pub digits_value-three : (ds : List ℕ) → list_all is_digit ds ≡ true → length ds ≤ 3 → digits_value ds < 1000
digits_value-three ds all few = digits_value_short digits_model ds 3 all few

-- digits after digits
pub digits_value-append : (xs ys : List ℕ) → digits_value (xs ++ ys) ≡ digits_value xs * 10 ^ length ys + digits_value ys
digits_value-append [] ys = omega arith
digits_value-append (x ∷ xs) ys =
    let power : 10 ^ length (xs ++ ys) ≡ 10 ^ length xs * 10 ^ length ys = ap (λ n. 10 ^ n) (length-append xs ys) ∙ pow-add 10 (length xs) (length ys) in
    let rest = digits_value-append xs ys in
    rw power (rw rest (grind arith))

-- digits spell 0 where each of them is `0`
pub eqb-digits_value-zero : (ds : List ℕ) → list_all is_digit ds ≡ true → (digits_value ds == 0) ≡ list_all (λ b. b == 48) ds
eqb-digits_value-zero [] all = refl
eqb-digits_value-zero (d ∷ ds) all =
    let parts = and_parts (is_digit d) (list_all is_digit ds) all in
    let least : 48 ≤ d = leb-true 48 d (and_parts (leb 48 d) (leb d 57) parts.0).0 in
    let rest : (digits_value ds == 0) ≡ list_all (λ b. b == 48) ds = eqb-digits_value-zero ds parts.1 in
    elim (cases_eq d 48) [
      | inl zero ↦
          let none : d - 48 ≡ 0 = omega arith in
          let value : (d - 48) * 10 ^ length ds + digits_value ds ≡ digits_value ds = rw none (omega arith) in
          ap (λ n. n == 0) value ∙ rest ∙ sym (ap (λ t. t && list_all (λ b. b == 48) ds) (eq-eqb d 48 zero))
      | inr other ↦
          let power : 1 ≤ 10 ^ length ds = one-le-pow (length ds) 10 (omega arith) in
          let some : 1 * 1 ≤ (d - 48) * 10 ^ length ds = mul-le 1 1 (d - 48) (10 ^ length ds) (omega arith) power in
          let not_zero : (d - 48) * 10 ^ length ds + digits_value ds ≡ 0 → ⊥ = λ e. absurd (omega arith) in
          ne_eqb ((d - 48) * 10 ^ length ds + digits_value ds) 0 not_zero
          ∙ sym (ap (λ t. t && list_all (λ b. b == 48) ds) (ne_eqb d 48 other))
    ]

-- the front and the back of digits are digits
pub list_all-cut : (p : ℕ → Bool) (xs : List ℕ) (n : ℕ) → list_all p xs ≡ true → (list_all p (take n xs) ≡ true) × (list_all p (drop n xs) ≡ true)
list_all-cut p xs n all =
    and_parts (list_all p (take n xs)) (list_all p (drop n xs)) (sym (list_all-append p (take n xs) (drop n xs)) ∙ ap (list_all p) (take-append-drop n xs) ∙ all)
