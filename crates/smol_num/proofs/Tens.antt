-- Sizes that stop growing at a limit, and division by a power of ten.
use Rattle.std.proofs.Common.{◌≡◌, ℕ, ◌+◌, ◌-◌, ◌*◌, ◌/◌, ◌%◌, ◌^◌, ◌<◌, ◌≤◌, ◌==◌, min, true, false, List, ◌++◌, length, take, drop, get_or, Result, Ok, Err, cond, leb, inl, inr, ap, ◌∙◌, sym, refl, arith, add-one, pow-add, append-nil}
use Rattle.std.specs.List.{list_all}
use Rattle.std.proofs.lemmas.Bool.{cases_lt, eqb-true, eqb-false, ne_eqb, lt-leb, le-leb, and_parts, and_from}
use Rattle.std.proofs.lemmas.List.Folds.{list_all-append}
use Rattle.std.proofs.lemmas.List.{take_all, take_min, take-append-le, drop-append-le, take-append-drop, length-drop, length-take-le, length-append, drop_all}
use Rattle.std.proofs.lemmas.Nat.{mul-le, div-mul-add, mod-mul-add}
use Rattle.std.proofs.lemmas.Str.Parse.{digits_value_short}
use Rattle.std.proofs.Math.Nat.{pow-suc, one-le-pow, mul-lt-mul_of_pos_left}
use Rattle.std.proofs.Math.Seq.{take-append-add, drop-append-add}
use Rattle.smol_num.specs.declared.num_fault.NumFault.{NumFault}
use Rattle.smol_num.specs.declared.num_fault.NumFault.TheVariants.{TooFine, TooLarge}
use Rattle.smol_num.specs.Digits.{is_digit, digits_value}
use Rattle.smol_num.specs.Decimal.{whole_number}
use Rattle.smol_num.proofs.DigitsLemmas.{digits_model, digits_value_more, digits_value-append, eqb-digits_value-zero, list_all-cut}

-- a limit met once is met by all that is larger
pub min-scaled : (a p d limit : ℕ) → 0 < p → min (min a limit * p + d) limit ≡ min (a * p + d) limit
min-scaled a p d limit some =
    elim (cases_lt a limit) [
      | inl less ↦ let same : min a limit ≡ a = omega arith in rw same refl
      | inr more ↦
          let same : min a limit ≡ limit = omega arith in
          let one : limit * 1 ≤ limit * p = mul-le limit 1 limit p (omega arith) some in
          let grown : limit * p ≤ a * p = mul-le limit p a p more (omega arith) in
          rw same (omega arith)
    ]

pub times_ten-more : (size power limit : ℕ) → 0 < limit → min (min (size * 10 ^ power) limit * 10) limit ≡ min (size * 10 ^ (power + 1)) limit
times_ten-more size power limit some =
    let next : 10 ^ (power + 1) ≡ 10 ^ power * 10 = rw add-one (pow-suc 10 power) in
    rw next (omega arith)

pub with_digits-more : (size : ℕ) (ds : List ℕ) (i limit : ℕ) → 0 < limit → i < length ds → min (min (size * 10 ^ i + digits_value (take i ds)) limit * 10 + (get_or ds i 0 - 48)) limit ≡ min (size * 10 ^ (i + 1) + digits_value (take (i + 1) ds)) limit
with_digits-more size ds i limit some within =
    let next : 10 ^ (i + 1) ≡ 10 ^ i * 10 = rw add-one (pow-suc 10 i) in
    rw (next, digits_value_more ds i within) (omega arith)

-- what is left of a number after all but its last digits, and those digits
pub digits_value-split : (ds : List ℕ) (cut : ℕ) → list_all is_digit ds ≡ true → (digits_value ds ≡ digits_value (take (length ds - cut) ds) * 10 ^ cut + digits_value (drop (length ds - cut) ds)) × (digits_value (drop (length ds - cut) ds) < 10 ^ cut)
digits_value-split ds cut all =
    elim (cases_lt (length ds) cut) [
      | inl short ↦
          let none : length ds - cut ≡ 0 = omega arith in
          let bound : digits_value ds < 10 ^ cut = digits_value_short digits_model ds cut all (omega arith) in
          rw none (omega arith, bound)
      | inr enough ↦
          let front = take (length ds - cut) ds in
          let back = drop (length ds - cut) ds in
          let size : length back ≡ cut = omega (arith, length-drop (length ds - cut) ds) in
          let value : digits_value ds ≡ digits_value front * 10 ^ length back + digits_value back =
          ap digits_value (sym (take-append-drop (length ds - cut) ds)) ∙ digits_value-append front back in
          let all_back : list_all is_digit back ≡ true = (list_all-cut is_digit ds (length ds - cut) all).1 in
          (value ∙ ap (λ k. digits_value front * 10 ^ k + digits_value back) size, digits_value_short digits_model back cut all_back (omega arith))
    ]

-- both quotients by a common power of ten
both_powers : (raised lowered : ℕ) → 10 ^ lowered * 10 ^ (raised - lowered) ≡ 10 ^ raised * 10 ^ (lowered - raised)
both_powers raised lowered =
    sym (pow-add 10 lowered (raised - lowered)) ∙ ap (λ k. 10 ^ k) (omega arith) ∙ pow-add 10 raised (lowered - raised)

zero_up : (raised lowered : ℕ) → raised < lowered → 0 ≡ raised - lowered
zero_up raised lowered less = omega arith

-- the quotient and the rest of a number by powers of ten
quotient : (number front back raised lowered : ℕ) → number ≡ front * 10 ^ (lowered - raised) + back → back < 10 ^ (lowered - raised) → (number * 10 ^ raised / 10 ^ lowered ≡ front * 10 ^ (raised - lowered)) × (number * 10 ^ raised % 10 ^ lowered ≡ back * 10 ^ raised)
quotient number front back raised lowered is_number bound =
    let up = 10 ^ (raised - lowered) in
    let down = 10 ^ (lowered - raised) in
    let powers : front * (10 ^ lowered * up) ≡ front * (10 ^ raised * down) = ap (λ k. front * k) (both_powers raised lowered) in
    let value : number * 10 ^ raised ≡ front * up * 10 ^ lowered + back * 10 ^ raised = rw is_number (omega arith) in
    let below : back * 10 ^ raised < 10 ^ lowered =
    elim (cases_lt raised lowered) [
      | inl divided ↦
          let one : 10 ^ lowered * 1 ≡ 10 ^ raised * down = ap (λ k. 10 ^ lowered * 10 ^ k) (zero_up raised lowered divided) ∙ both_powers raised lowered in
          let less : 10 ^ raised * back < 10 ^ raised * down = mul-lt-mul_of_pos_left bound (one-le-pow raised 10 (omega arith)) in
          omega arith
      | inr grown ↦
          let zero : lowered - raised ≡ 0 = omega arith in
          let one : down ≡ 1 = ap (λ k. 10 ^ k) zero in
          let none : back ≡ 0 = omega arith in
          rw none (let some : 1 ≤ 10 ^ lowered = one-le-pow lowered 10 (omega arith) in omega arith)
    ]
    in (
      ap (λ n. n / 10 ^ lowered) value ∙ div-mul-add (front * up) (10 ^ lowered) (back * 10 ^ raised) below,
      ap (λ n. n % 10 ^ lowered) value ∙ mod-mul-add (front * up) (10 ^ lowered) (back * 10 ^ raised) below,
    )

-- what `whole_number` answers of a quotient and a rest
abbrev pub answer : ℕ → ℕ → Result ℕ NumFault
answer q rest = cond (rest == 0) (cond (leb q (10 ^ 18)) (Ok q) (Err TooLarge)) (Err TooFine)

-- the first digits of two runs of digits, and the last ones
take-append : (xs ys : List ℕ) (n : ℕ) → take n (xs ++ ys) ≡ take n xs ++ take (n - length xs) ys
take-append xs ys n =
    elim (cases_lt n (length xs)) [
      | inl less ↦
          let none : n - length xs ≡ 0 = omega arith in
          take-append-le n xs ys (omega arith) ∙ sym (ap (λ k. take n xs ++ take k ys) none ∙ append-nil (take n xs))
      | inr more ↦
          let size : length xs + (n - length xs) ≡ n = omega arith in
          ap (λ k. take k (xs ++ ys)) (sym size) ∙ take-append-add xs ys (n - length xs)
          ∙ ap (λ t. t ++ take (n - length xs) ys) (sym (take_all n xs more))
    ]

drop-append : (xs ys : List ℕ) (n : ℕ) → drop n (xs ++ ys) ≡ drop n xs ++ drop (n - length xs) ys
drop-append xs ys n =
    elim (cases_lt n (length xs)) [
      | inl less ↦
          let none : n - length xs ≡ 0 = omega arith in
          drop-append-le n xs ys (omega arith) ∙ sym (ap (λ k. drop n xs ++ drop k ys) none)
      | inr more ↦
          let size : length xs + (n - length xs) ≡ n = omega arith in
          ap (λ k. drop k (xs ++ ys)) (sym size) ∙ drop-append-add xs ys (n - length xs)
          ∙ ap (λ t. t ++ drop (n - length xs) ys) (sym (drop_all n xs more))
    ]

drop_min : (n : ℕ) (xs : List ℕ) → drop (min n (length xs)) xs ≡ drop n xs
drop_min n xs =
    elim (cases_lt n (length xs)) [
      | inl less ↦ ap (λ k. drop k xs) (omega arith)
      | inr more ↦
          let same : min n (length xs) ≡ length xs = omega arith in
          ap (λ k. drop k xs) same ∙ drop_all (length xs) xs (omega arith) ∙ sym (drop_all n xs more)
    ]

-- the number that two runs of digits spell, scaled by powers of ten: what is kept of its digits, and what is cut off
pub scaled : (whole fraction kept_whole cut_whole kept_fraction cut_fraction : List ℕ) (raised lowered kept : ℕ) → list_all is_digit (whole ++ fraction) ≡ true → kept ≡ length whole + length fraction - (lowered - raised) → kept_whole ≡ take (min kept (length whole)) whole → cut_whole ≡ drop (min kept (length whole)) whole → kept_fraction ≡ take (kept - length kept_whole) fraction → cut_fraction ≡ drop (kept - length kept_whole) fraction → whole_number (digits_value (whole ++ fraction) * 10 ^ raised) (10 ^ lowered) ≡ answer (digits_value (kept_whole ++ kept_fraction) * 10 ^ (raised - lowered)) (digits_value (cut_whole ++ cut_fraction) * 10 ^ raised)
scaled whole fraction kept_whole cut_whole kept_fraction cut_fraction raised lowered kept all is_kept is_kept_whole is_cut_whole is_kept_fraction is_cut_fraction =
    let digits = whole ++ fraction in
    let most = length digits - (lowered - raised) in
    let same : most ≡ kept = ap (λ k. k - (lowered - raised)) (length-append whole fraction) ∙ sym is_kept in
    let size : length kept_whole ≡ min kept (length whole) = ap length is_kept_whole ∙ length-take-le (min kept (length whole)) whole (omega arith) in
    let left : kept - length whole ≡ kept - length kept_whole = omega arith in
    let front : take most digits ≡ kept_whole ++ kept_fraction =
    ap (λ k. take k digits) same ∙ take-append whole fraction kept
    ∙ ap (λ t. t ++ take (kept - length whole) fraction) (sym (take_min kept whole) ∙ sym is_kept_whole)
    ∙ ap (λ t. kept_whole ++ t) (ap (λ k. take k fraction) left ∙ sym is_kept_fraction) in
    let back : drop most digits ≡ cut_whole ++ cut_fraction =
    ap (λ k. drop k digits) same ∙ drop-append whole fraction kept
    ∙ ap (λ t. t ++ drop (kept - length whole) fraction) (sym (drop_min kept whole) ∙ sym is_cut_whole)
    ∙ ap (λ t. cut_whole ++ t) (ap (λ k. drop k fraction) left ∙ sym is_cut_fraction) in
    let split = digits_value-split digits (lowered - raised) all in
    let parts = quotient (digits_value digits) (digits_value (take most digits)) (digits_value (drop most digits)) raised lowered split.0 split.1 in
    ap (λ q. answer q (digits_value digits * 10 ^ raised % 10 ^ lowered)) parts.0
    ∙ ap (λ r. answer (digits_value (take most digits) * 10 ^ (raised - lowered)) r) parts.1
    ∙ ap (λ t. answer (digits_value t * 10 ^ (raised - lowered)) (digits_value (drop most digits) * 10 ^ raised)) front
    ∙ ap (λ t. answer (digits_value (kept_whole ++ kept_fraction) * 10 ^ (raised - lowered)) (digits_value t * 10 ^ raised)) back

-- the digits that are kept and those that are cut off are digits
pub list_all-scaled : (whole fraction kept_whole cut_whole kept_fraction cut_fraction : List ℕ) (n m : ℕ) → list_all is_digit (whole ++ fraction) ≡ true → kept_whole ≡ take n whole → cut_whole ≡ drop n whole → kept_fraction ≡ take m fraction → cut_fraction ≡ drop m fraction → (list_all is_digit kept_whole ≡ true) × (list_all is_digit kept_fraction ≡ true) × (list_all is_digit (cut_whole ++ cut_fraction) ≡ true)
list_all-scaled whole fraction kept_whole cut_whole kept_fraction cut_fraction n m all is_kept_whole is_cut_whole is_kept_fraction is_cut_fraction =
    let parts = and_parts (list_all is_digit whole) (list_all is_digit fraction) (sym (list_all-append is_digit whole fraction) ∙ all) in
    let of_whole = list_all-cut is_digit whole n parts.0 in
    let of_fraction = list_all-cut is_digit fraction m parts.1 in (
      ap (list_all is_digit) is_kept_whole ∙ of_whole.0,
      ap (list_all is_digit) is_kept_fraction ∙ of_fraction.0,
      list_all-append is_digit cut_whole cut_fraction
          ∙ and_from (list_all is_digit cut_whole) (list_all is_digit cut_fraction) (ap (list_all is_digit) is_cut_whole ∙ of_whole.1) (ap (list_all is_digit) is_cut_fraction ∙ of_fraction.1),
    )

-- the size that the kept digits grow to, as it is counted up to a limit
pub grown : (whole fraction : List ℕ) (power limit : ℕ) → 0 < limit → min (min (min (0 * 10 ^ length whole + digits_value whole) limit * 10 ^ length fraction + digits_value fraction) limit * 10 ^ power) limit ≡ min (digits_value (whole ++ fraction) * 10 ^ power) limit
grown whole fraction power limit some =
    let first : 0 * 10 ^ length whole + digits_value whole ≡ digits_value whole = omega arith in
    let value = digits_value-append whole fraction in
    let both : min (min (0 * 10 ^ length whole + digits_value whole) limit * 10 ^ length fraction + digits_value fraction) limit ≡ min (digits_value (whole ++ fraction)) limit =
    ap (λ n. min (min n limit * 10 ^ length fraction + digits_value fraction) limit) first
    ∙ min-scaled (digits_value whole) (10 ^ length fraction) (digits_value fraction) limit (one-le-pow (length fraction) 10 (omega arith))
    ∙ ap (λ n. min n limit) (sym value) in
    let no_more : (n : ℕ) → n + 0 ≡ n = λ n. omega arith in
    let number = digits_value (whole ++ fraction) in
    ap (λ n. min (n * 10 ^ power) limit) both
    ∙ ap (λ n. min n limit) (sym (no_more (min number limit * 10 ^ power)))
    ∙ min-scaled number (10 ^ power) 0 limit (one-le-pow power 10 (omega arith))
    ∙ ap (λ n. min n limit) (no_more (number * 10 ^ power))

-- where a digit that is cut off isn't 0, the number is no whole one
pub answer-fine : (q : ℕ) (cut : List ℕ) (power : ℕ) → list_all is_digit cut ≡ true → list_all (λ b. b == 48) cut ≡ false → answer q (digits_value cut * 10 ^ power) ≡ Err TooFine
answer-fine q cut power all other =
    let test : (digits_value cut == 0) ≡ false = eqb-digits_value-zero cut all ∙ other in
    let some : 1 ≤ digits_value cut = let ne = eqb-false (digits_value cut) 0 test in omega arith in
    let product : 1 * 1 ≤ digits_value cut * 10 ^ power = mul-le 1 1 (digits_value cut) (10 ^ power) some (one-le-pow power 10 (omega arith)) in
    ap (λ t. cond t (cond (leb q (10 ^ 18)) (Ok q) (Err TooLarge)) (Err TooFine)) (ne_eqb (digits_value cut * 10 ^ power) 0 (λ e. absurd (omega arith)))

-- and else the quotient is, unless it is too large
pub answer-whole : (q : ℕ) (cut : List ℕ) (power : ℕ) → list_all is_digit cut ≡ true → list_all (λ b. b == 48) cut ≡ true → answer q (digits_value cut * 10 ^ power) ≡ cond (leb q (10 ^ 18)) (Ok q) (Err TooLarge)
answer-whole q cut power all zeros =
    let test : (digits_value cut == 0) ≡ true = eqb-digits_value-zero cut all ∙ zeros in
    let none : digits_value cut ≡ 0 = eqb-true (digits_value cut) 0 test in
    let product : digits_value cut * 10 ^ power ≡ 0 = rw none (omega arith) in
    ap (λ r. answer q r) product

-- a size that is counted up to a limit tells whether it is too large, and else is exact
pub answer-limited : (q counted : ℕ) → counted ≡ min q (10 ^ 18 + 1) → (10 ^ 18 < counted → Err TooLarge ≡ cond (leb q (10 ^ 18)) (Ok q) (Err TooLarge)) × (counted ≤ 10 ^ 18 → Ok counted ≡ cond (leb q (10 ^ 18)) (Ok q) (Err TooLarge))
answer-limited q counted is = (
  (λ more. let test : leb q (10 ^ 18) ≡ false = lt-leb q (10 ^ 18) (omega arith) in
      sym (ap (λ t. cond t (Ok q) (Err TooLarge)) test)),
  (λ less. let same : counted ≡ q = omega arith in
      let test : leb q (10 ^ 18) ≡ true = le-leb q (10 ^ 18) (omega arith) in
      ap Ok same ∙ sym (ap (λ t. cond t (Ok q) (Err TooLarge)) test)),
)
