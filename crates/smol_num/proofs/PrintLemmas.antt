-- The parts of a printed decimal.
use Rattle.std.proofs.Common.{◌≡◌, ℕ, zero, suc, ◌+◌, ◌-◌, ◌*◌, ◌/◌, ◌%◌, ◌^◌, ◌<◌, ◌≤◌, ◌++◌, cond, List, [], ◌∷◌, length, take, set, decimal, ℤ, pos, negsuc, ◌<ℤ◌, unsigned_abs, sym, refl, ap, ◌∙◌, arith, pow-add, append_assoc}
use Rattle.std.proofs.lemmas.Bool.{ne_eqb}
use Rattle.std.proofs.lemmas.Fmt.{length-decimal-le}
use Rattle.std.proofs.lemmas.Int.{ints}
use Rattle.std.proofs.lemmas.List.{take_more_set}
use Rattle.std.proofs.lemmas.Nat.{mul-le, div_below, mod_below}
use Rattle.std.proofs.Math.Nat.{pow-suc, one-le-pow, mul-div_cancel}
use Rattle.smol_num.specs.Print.{sign_text, places_text, fraction_text, decimal_text}

-- a power of ten, divided by ten
pub pow-div : (k : ℕ) → 0 < k → 10 ^ k / 10 ≡ 10 ^ (k - 1)
pow-div zero some = absurd (omega arith)
pow-div (suc k) some =
    let same : suc k - 1 ≡ k = omega arith in
    rw same (ap (λ n. n / 10) (pow-suc 10 k) ∙ mul-div_cancel (10 ^ k) (omega arith))

-- the digit at the first place, and the places after it
pub places_text-step : (places rest : ℕ) → 0 < rest → rest < 10 ^ places → places_text places rest ≡ (48 + rest / 10 ^ (places - 1)) ∷ places_text (places - 1) (rest % 10 ^ (places - 1))
places_text-step zero rest some below = absurd (omega arith)
places_text-step (suc k) rest some below =
    let same : suc k - 1 ≡ k = omega arith in
    rw same (ap (λ t. cond t [] ((48 + rest / 10 ^ k) ∷ places_text k (rest % 10 ^ k))) (ne_eqb rest 0 (λ e. absurd (omega arith))))

-- no rest has no places
pub places_text-none : (places : ℕ) → places_text places 0 ≡ []
places_text-none zero = refl
places_text-none (suc places) = refl

-- a rest has a place before it is through
pub place-some : (place left : ℕ) → 0 < left → left < 10 ^ place → 0 < place
place-some zero left some below = absurd (omega arith)
place-some (suc place) left some below = omega arith

-- one more digit is written
pub put_place : (out before : List ℕ) (end place left digit : ℕ) → end < length out → 0 < left → left < 10 ^ place → digit ≡ left / 10 ^ (place - 1) → take end out ++ places_text place left ≡ before → take (end + 1) (set out end (48 + digit)) ++ places_text (place - 1) (left % 10 ^ (place - 1)) ≡ before
put_place out before end place left digit within some below is_digit so_far =
    let more : take (end + 1) (set out end (48 + digit)) ≡ take end out ++ (48 + digit) ∷ [] = take_more_set out end (48 + digit) within in
    let rest = places_text (place - 1) (left % 10 ^ (place - 1)) in
    ap (λ t. t ++ rest) more
    ∙ append_assoc (take end out) ((48 + digit) ∷ []) rest
    ∙ ap (λ d. take end out ++ ((48 + d) ∷ rest)) is_digit
    ∙ ap (λ t. take end out ++ t) (sym (places_text-step place left some below))
    ∙ so_far

-- the sign of a negative number, written
pub sign_text-negative : (v : ℤ) → v <ℤ pos 0 → sign_text v ≡ 45 ∷ []
sign_text-negative (pos n) below = absurd (omega (arith, ints))
sign_text-negative (negsuc n) below = refl

pub put_front : (out : List ℕ) (b : ℕ) → 1 ≤ length out → take 1 (set out 0 b) ≡ b ∷ []
put_front [] b some = absurd (omega arith)
put_front (x ∷ out) b some = refl

-- ten to six places or more
pow-six : (places : ℕ) → 6 ≤ places → 10 ^ 6 ≤ 10 ^ places
pow-six places least =
    let split : 10 ^ (6 + (places - 6)) ≡ 10 ^ 6 * 10 ^ (places - 6) = pow-add 10 6 (places - 6) in
    let same : 6 + (places - 6) ≡ places = omega arith in
    let some : 10 ^ 6 * 1 ≤ 10 ^ 6 * 10 ^ (places - 6) = mul-le (10 ^ 6) 1 (10 ^ 6) (10 ^ (places - 6)) (omega arith) (one-le-pow (places - 6) 10 (omega arith)) in
    let power : 10 ^ places ≡ 10 ^ 6 * 10 ^ (places - 6) = ap (λ k. 10 ^ k) (sym same) ∙ split in
    omega arith

-- the whole part of a size of 64 bits has at most 13 digits
pub length-whole_part : (size places : ℕ) → 6 ≤ places → size ≤ 2 ^ 63 → length (decimal (size / 10 ^ places)) ≤ 13
length-whole_part size places least small =
    let unit = pow-six places least in
    let wide : 10 ^ 13 * 10 ^ 6 ≤ 10 ^ 13 * 10 ^ places = mul-le (10 ^ 13) (10 ^ 6) (10 ^ 13) (10 ^ places) (omega arith) unit in
    let below : size / 10 ^ places < 10 ^ 13 = div_below size (10 ^ places) (10 ^ 13) (omega arith) (omega arith) in
    length-decimal-le 13 (size / 10 ^ places) (omega arith) below (omega arith)

pub unit-some : (places : ℕ) → 0 < 10 ^ places
unit-some places = one-le-pow places 10 (omega arith)

pub rest-below : (size places : ℕ) → size % 10 ^ places < 10 ^ places
rest-below size places = mod_below size (10 ^ places) (unit-some places)

-- sign, whole part and fraction, written one after the other
pub decimal_text-parts : (v : ℤ) (places unit size : ℕ) (signed_out whole_out out : List ℕ) → unit ≡ 10 ^ places → size ≡ unsigned_abs v → signed_out ≡ sign_text v → whole_out ≡ signed_out ++ decimal (size / unit) → out ≡ whole_out ++ fraction_text places (size % unit) → out ≡ decimal_text places v
unfolding decimal_text
decimal_text-parts v places unit size signed_out whole_out out is_unit is_size is_signed is_whole is_out =
    is_out
    ∙ ap (λ t. t ++ fraction_text places (size % unit)) (is_whole ∙ ap (λ t. t ++ decimal (size / unit)) is_signed)
    ∙ append_assoc (sign_text v) (decimal (size / unit)) (fraction_text places (size % unit))
    ∙ ap (λ n. sign_text v ++ (decimal (n / unit) ++ fraction_text places (n % unit))) is_size
    ∙ ap (λ u. sign_text v ++ (decimal (unsigned_abs v / u) ++ fraction_text places (unsigned_abs v % u))) is_unit
