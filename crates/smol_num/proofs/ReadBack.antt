-- A printed decimal is read back.
use Rattle.std.proofs.Common.{◌&&◌, ◌≡◌, ℕ, zero, suc, ◌+◌, ◌-◌, ◌*◌, ◌/◌, ◌%◌, ◌^◌, ◌<◌, ◌≤◌, ◌==◌, ◌++◌, ◌||◌, not, Bool, true, false, cond, leb, ltb, List, [], ◌∷◌, length, take, drop, decimal, ℤ, pos, negsuc, unsigned_abs, Ok, Err, sym, refl, ap, ◌∙◌, subst, inl, inr, arith, append-nil, add-zero}
use Rattle.std.specs.List.{list_all, list_any, position_or_len, before_first, after_first}
use Rattle.std.proofs.lemmas.Bool.{cond_both, and_parts, and_from, leb-true, eqb-true, ne_eqb, le-leb, lt-ltb, or_cases}
use Rattle.std.proofs.lemmas.Fmt.{digits_decimal, digits_value-decimal, decimal_nonempty}
use Rattle.std.proofs.lemmas.List.{take_all, take_at, drop_at, drop_all, drop-drop, length-append}
use Rattle.std.proofs.lemmas.List.Folds.{list_all-append}
use Rattle.std.proofs.lemmas.Nat.{mul-le, div-mul-add, mod-mul-add, mod_below, div-add-mod', div_below}
use Rattle.std.proofs.Math.Nat.{pow-suc, one-le-pow, mul-div-le}
use Rattle.smol_num.specs.declared.num_fault.NumFault.TheVariants.{TooFine, TooLarge}
use Rattle.smol_num.specs.Digits.{is_digit, digits_value}
use Rattle.smol_num.specs.Decimal.{is_sign, is_point, is_mark, is_negative, without_sign, mantissa, whole_part, fraction, exponent, is_mantissa, is_exponent, is_decimal, raised_by, lowered_by, whole_number, signed, signed_result, decimal_of}
use Rattle.smol_num.specs.Print.{places_text, fraction_text, decimal_text}
use Rattle.smol_num.proofs.DigitsLemmas.{digits_model, digits_value-append}
use Rattle.smol_num.proofs.DecimalLemmas.{decimal_of-parts}
use Rattle.smol_num.proofs.PrintLemmas.{places_text-none, unit-some, rest-below}

-- a digit is none of the other bytes of a decimal
digit-least : (b : ℕ) → is_digit b ≡ true → 48 ≤ b
digit-least b digit = leb-true 48 b (and_parts (leb 48 b) (leb b 57) digit).0

digit-most : (b : ℕ) → is_digit b ≡ true → b ≤ 57
digit-most b digit = leb-true b 57 (and_parts (leb 48 b) (leb b 57) digit).1

eqb-digit : (b other : ℕ) → is_digit b ≡ true → other < 48 → (b == other) ≡ false
eqb-digit b other digit small = let least = digit-least b digit in ne_eqb b other (λ e. absurd (omega arith))

eqb-digit-above : (b other : ℕ) → is_digit b ≡ true → 57 < other → (b == other) ≡ false
eqb-digit-above b other digit large = let most = digit-most b digit in ne_eqb b other (λ e. absurd (omega arith))

-- digits begin with no sign
without_sign-digits : (ds rest : List ℕ) → list_all is_digit ds ≡ true → 0 < length ds → without_sign (ds ++ rest) ≡ ds ++ rest
without_sign-digits [] rest all some = absurd (omega arith)
without_sign-digits (d ∷ ds) rest all some =
    let digit = (and_parts (is_digit d) (list_all is_digit ds) all).0 in
    let none : is_sign d ≡ false = ap (λ t. t || d == 45) (eqb-digit d 43 digit (omega arith)) ∙ eqb-digit d 45 digit (omega arith) in
    ap (λ t. cond t (ds ++ rest) (d ∷ (ds ++ rest))) none

is_negative-digits : (ds rest : List ℕ) → list_all is_digit ds ≡ true → 0 < length ds → is_negative (ds ++ rest) ≡ false
is_negative-digits [] rest all some = absurd (omega arith)
is_negative-digits (d ∷ ds) rest all some = eqb-digit d 45 (and_parts (is_digit d) (list_all is_digit ds) all).0 (omega arith)

or_none : (x y : Bool) → x ≡ false → y ≡ false → (x || y) ≡ false
or_none x y no_x no_y = ap (λ t. t || y) no_x ∙ no_y

-- digits and points
abbrev pub is_plain : ℕ → Bool
is_plain b = is_digit b || is_point b

-- an element that passes nothing of a list is found nowhere
pub nowhere : (p : ℕ → Bool) (q : ℕ → Bool) (xs : List ℕ) → ((x : ℕ) → q x ≡ true → p x ≡ false) → list_all q xs ≡ true → (position_or_len p xs ≡ length xs) × (list_any p xs ≡ false)
nowhere p q [] apart all = (refl, refl)
nowhere p q (x ∷ xs) apart all =
    let parts = and_parts (q x) (list_all q xs) all in
    let rest = nowhere p q xs apart parts.1 in
    let fails = apart x parts.0 in (
      ap (λ t. cond (not t) (1 + position_or_len p xs) 0) fails ∙ ap (λ n. 1 + n) rest.0 ∙ omega arith,
      ap (λ t. t || list_any p xs) fails ∙ rest.1,
    )

pub plain-no_mark : (b : ℕ) → is_plain b ≡ true → is_mark b ≡ false
plain-no_mark b plain =
    elim (or_cases (is_digit b) (is_point b) plain) [
      | inl digit ↦ or_none (b == 101) (b == 69) (eqb-digit-above b 101 digit (omega arith)) (eqb-digit-above b 69 digit (omega arith))
      | inr point ↦
          let same : b ≡ 46 = eqb-true b 46 point in
          or_none (b == 101) (b == 69) (ne_eqb b 101 (λ e. absurd (omega arith))) (ne_eqb b 69 (λ e. absurd (omega arith)))
    ]

drop_past : (ds fs : List ℕ) → drop (length ds + 1) (ds ++ 46 ∷ fs) ≡ fs
drop_past ds fs = sym (drop-drop 1 (length ds) (ds ++ 46 ∷ fs)) ∙ ap (drop 1) (drop_at ds (46 ∷ fs) (length ds) refl)

digit-no_point : (b : ℕ) → is_digit b ≡ true → is_point b ≡ false
digit-no_point b digit = eqb-digit b 46 digit (omega arith)

-- nor a sign
pub plain-no_sign : (b : ℕ) → is_plain b ≡ true → (is_sign b ≡ false) × ((b == 45) ≡ false)
plain-no_sign b plain =
    elim (or_cases (is_digit b) (is_point b) plain) [
      | inl digit ↦ (or_none (b == 43) (b == 45) (eqb-digit b 43 digit (omega arith)) (eqb-digit b 45 digit (omega arith)), eqb-digit b 45 digit (omega arith))
      | inr point ↦
          let same : b ≡ 46 = eqb-true b 46 point in
          let minus : (b == 45) ≡ false = ne_eqb b 45 (λ e. absurd (omega arith)) in
          (or_none (b == 43) (b == 45) (ne_eqb b 43 (λ e. absurd (omega arith))) minus, minus)
    ]

-- digits before a point
position-point : (ds fs : List ℕ) → list_all is_digit ds ≡ true → position_or_len is_point (ds ++ 46 ∷ fs) ≡ length ds
position-point [] fs all = refl
position-point (d ∷ ds) fs all =
    let parts = and_parts (is_digit d) (list_all is_digit ds) all in
    ap (λ t. cond (not t) (1 + position_or_len is_point (ds ++ 46 ∷ fs)) 0) (digit-no_point d parts.0)
    ∙ ap (λ n. 1 + n) (position-point ds fs parts.1) ∙ omega arith

-- the digits of a rest, and their value
pub all-places_text : (places rest : ℕ) → rest < 10 ^ places → list_all is_digit (places_text places rest) ≡ true
all-places_text zero rest below = refl
all-places_text (suc k) rest below =
    let digit : rest / 10 ^ k < 10 = div_below rest (10 ^ k) 10 (one-le-pow k 10 (omega arith)) (omega (arith, pow-suc 10 k)) in
    let first : is_digit (48 + rest / 10 ^ k) ≡ true =
    and_from (leb 48 (48 + rest / 10 ^ k)) (leb (48 + rest / 10 ^ k) 57) (le-leb 48 (48 + rest / 10 ^ k) (omega arith)) (le-leb (48 + rest / 10 ^ k) 57 (omega arith)) in
    let more = all-places_text k (rest % 10 ^ k) (mod_below rest (10 ^ k) (one-le-pow k 10 (omega arith))) in
    cond_both (rest == 0) [] ((48 + rest / 10 ^ k) ∷ places_text k (rest % 10 ^ k)) (λ t. list_all is_digit t ≡ true) (λ _. refl)
    (λ _. and_from (is_digit (48 + rest / 10 ^ k)) (list_all is_digit (places_text k (rest % 10 ^ k))) first more)

pub digits_value-places_text : (places rest : ℕ) → rest < 10 ^ places → digits_value (places_text places rest) * 10 ^ places ≡ rest * 10 ^ length (places_text places rest)
digits_value-places_text zero rest below =
    let none : rest ≡ 0 = omega arith in
    rw none refl
digits_value-places_text (suc k) rest below =
    let unit = 10 ^ k in
    let quotient = rest / 10 ^ k in
    let more = places_text k (rest % 10 ^ k) in
    let whole : quotient * unit + rest % unit ≡ rest = div-add-mod' rest unit in
    let step : digits_value more * unit ≡ rest % unit * 10 ^ length more = digits_value-places_text k (rest % 10 ^ k) (mod_below rest (10 ^ k) (one-le-pow k 10 (omega arith))) in
    let power : 10 ^ suc k ≡ unit * 10 = pow-suc 10 k in
    let size : 10 ^ suc (length more) ≡ 10 ^ length more * 10 = pow-suc 10 (length more) in
    let digit : 48 + quotient - 48 ≡ quotient = omega arith in
    cond_both (rest == 0) [] ((48 + quotient) ∷ more) (λ t. digits_value t * 10 ^ suc k ≡ rest * 10 ^ length t)
    (λ e. let none : rest ≡ 0 = eqb-true rest 0 e in rw none (omega arith))
    (λ _. rw (digit, power, size)
    (let scaled_rest : (quotient * unit + rest % unit) * 10 ^ length more ≡ rest * 10 ^ length more = ap (λ n. n * 10 ^ length more) whole in
    let goal : (quotient * 10 ^ length more + digits_value more) * (unit * 10) ≡ rest * (10 ^ length more * 10) = omega arith in
    goal))

-- a text of digits, a point and digits, or of digits alone
pub record Parts (ds fs text : List ℕ) : Type 0 where
  pub plain : list_all is_plain text ≡ true
  pub before : before_first is_point text ≡ ds
  pub after : after_first is_point text ≡ fs

pub plain-digits : (ds : List ℕ) → list_all is_digit ds ≡ true → list_all is_plain ds ≡ true
plain-digits [] all = refl
plain-digits (d ∷ ds) all =
    let parts = and_parts (is_digit d) (list_all is_digit ds) all in
    and_from (is_plain d) (list_all is_plain ds) (ap (λ t. t || is_point d) parts.0) (plain-digits ds parts.1)

pub Parts-digits : (ds : List ℕ) → list_all is_digit ds ≡ true → Parts ds [] (ds ++ [])
Parts-digits ds all =
    let found = (nowhere is_point is_digit ds digit-no_point all).0 in
    let same = append-nil ds in
    rw same (record {
      plain = plain-digits ds all;
      before = ap (λ k. take k ds) found ∙ take_all (length ds) ds (omega arith);
      after = ap (λ k. drop (k + 1) ds) found ∙ drop_all (length ds + 1) ds (omega arith);
    })

pub Parts-point : (ds fs : List ℕ) → list_all is_digit ds ≡ true → list_all is_digit fs ≡ true → Parts ds fs (ds ++ 46 ∷ fs)
Parts-point ds fs all all_fs =
    let found = position-point ds fs all in
    record {
      plain = list_all-append is_plain ds (46 ∷ fs) ∙ and_from (list_all is_plain ds) (list_all is_plain (46 ∷ fs)) (plain-digits ds all) (plain-digits fs all_fs);
      before = ap (λ k. take k (ds ++ 46 ∷ fs)) found ∙ take_at ds (46 ∷ fs) (length ds) refl;
      after = ap (λ k. drop (k + 1) (ds ++ 46 ∷ fs)) found ∙ drop_past ds fs;
    }

-- a word of such parts after its sign spells their number
decimal_of-text : (word text ds fs : List ℕ) (places size : ℕ) (negative : Bool) → Parts ds fs text → is_negative word ≡ negative → without_sign word ≡ text → list_all is_digit (ds ++ fs) ≡ true → 0 < length ds → digits_value (ds ++ fs) * 10 ^ places ≡ size * 10 ^ length fs → size ≤ 10 ^ 18 → decimal_of word places ≡ Ok (signed negative size)
decimal_of-text word text ds fs places size negative parts is_neg unsigned all some value small =
    let unmarked = nowhere is_mark is_plain text plain-no_mark parts.plain in
    let is_mantissa_of : mantissa word ≡ text = ap (before_first is_mark) unsigned ∙ ap (λ k. take k text) unmarked.0 ∙ take_all (length text) text (omega arith) in
    let is_whole : whole_part word ≡ ds = ap (before_first is_point) is_mantissa_of ∙ parts.before in
    let is_fraction : fraction word ≡ fs = ap (after_first is_point) is_mantissa_of ∙ parts.after in
    let is_exponent_of : exponent word ≡ [] = ap (after_first is_mark) unsigned ∙ ap (λ k. drop (k + 1) text) unmarked.0 ∙ drop_all (length text + 1) text (omega arith) in
    let no_mark : list_any is_mark (without_sign word) ≡ false = ap (list_any is_mark) unsigned ∙ unmarked.1 in
    let digits : is_mantissa (mantissa word) ≡ true =
    ap (λ w. ltb 0 (length (w ++ fraction word)) && list_all is_digit (w ++ fraction word)) is_whole
    ∙ ap (λ f. ltb 0 (length (ds ++ f)) && list_all is_digit (ds ++ f)) is_fraction
    ∙ and_from (ltb 0 (length (ds ++ fs))) (list_all is_digit (ds ++ fs)) (lt-ltb 0 (length (ds ++ fs)) (omega (arith, length-append ds fs))) all in
    let found : is_decimal word ≡ true =
    and_from (is_mantissa (mantissa word)) (not (list_any is_mark (without_sign word)) || is_exponent (exponent word)) digits
    (ap (λ t. not t || is_exponent (exponent word)) no_mark) in
    let unit = 10 ^ length fs in
    let unit_some : 0 < unit = one-le-pow (length fs) 10 (omega arith) in
    let numerator : digits_value (ds ++ fs) * 10 ^ (places + 0) ≡ size * unit + 0 = ap (λ k. digits_value (ds ++ fs) * 10 ^ k) (add-zero places) ∙ value ∙ omega arith in
    let denominator : 10 ^ (length fs + 0) ≡ unit = ap (λ k. 10 ^ k) (add-zero (length fs)) in
    let number : whole_number (size * unit + 0) unit ≡ Ok size =
    ap (λ r. cond (r == 0) (cond (leb ((size * unit + 0) / unit) (10 ^ 18)) (Ok ((size * unit + 0) / unit)) (Err TooLarge)) (Err TooFine)) (mod-mul-add size unit 0 unit_some)
    ∙ ap (λ q. cond (leb q (10 ^ 18)) (Ok q) (Err TooLarge)) (div-mul-add size unit 0 unit_some)
    ∙ ap (λ t. cond t (Ok size) (Err TooLarge)) (le-leb size (10 ^ 18) small) in
    sym (decimal_of-parts word places negative ds fs 0 0 found (sym is_neg) (sym is_whole) (sym is_fraction) (sym (ap raised_by is_exponent_of)) (sym (ap lowered_by is_exponent_of)))
    ∙ ap (λ n. signed_result negative (whole_number n (10 ^ (length fs + 0)))) numerator
    ∙ ap (λ d. signed_result negative (whole_number (size * unit + 0) d)) denominator
    ∙ ap (signed_result negative) number

-- the printed size, without its sign
Parts-size : (places size : ℕ) → list_all is_digit (decimal (size / 10 ^ places)) ≡ true → Parts (decimal (size / 10 ^ places)) (places_text places (size % 10 ^ places)) (decimal (size / 10 ^ places) ++ fraction_text places (size % 10 ^ places))
Parts-size places size all =
    let ds = decimal (size / 10 ^ places) in
    let rest = size % 10 ^ places in
    let below = rest-below size places in
    cond_both (rest == 0) [] (46 ∷ places_text places rest) (λ t. Parts ds (places_text places rest) (ds ++ t))
    (λ e. let none : places_text places rest ≡ [] = ap (places_text places) (eqb-true rest 0 e) ∙ places_text-none places in
    subst (λ t. Parts ds t (ds ++ [])) (sym none) (Parts-digits ds all))
    (λ _. Parts-point ds (places_text places rest) all (all-places_text places rest below))

-- what the printed size spells
module _ (places size : ℕ) (small : size ≤ 10 ^ 18) where
  whole_small : size / 10 ^ places < 2 ^ 64
  whole_small =
      let unit = unit-some places in
      let product = mul-le 1 (size / 10 ^ places) (10 ^ places) (size / 10 ^ places) unit (omega arith) in
      omega (arith, mul-div-le size (10 ^ places))

  whole_digits : list_all is_digit (decimal (size / 10 ^ places)) ≡ true
  whole_digits = digits_decimal digits_model (size / 10 ^ places) whole_small

  text_digits : list_all is_digit (decimal (size / 10 ^ places) ++ places_text places (size % 10 ^ places)) ≡ true
  text_digits =
      list_all-append is_digit (decimal (size / 10 ^ places)) (places_text places (size % 10 ^ places))
      ∙ and_from (list_all is_digit (decimal (size / 10 ^ places))) (list_all is_digit (places_text places (size % 10 ^ places))) whole_digits (all-places_text places (size % 10 ^ places) (rest-below size places))

  text_value : digits_value (decimal (size / 10 ^ places) ++ places_text places (size % 10 ^ places)) * 10 ^ places ≡ size * 10 ^ length (places_text places (size % 10 ^ places))
  text_value =
      let w = size / 10 ^ places in
      let r = size % 10 ^ places in
      let fs = places_text places r in
      let whole : digits_value (decimal w) ≡ w = digits_value-decimal digits_model w whole_small in
      let value : digits_value (decimal w ++ fs) ≡ w * 10 ^ length fs + digits_value fs = digits_value-append (decimal w) fs ∙ ap (λ n. n * 10 ^ length fs + digits_value fs) whole in
      let part : digits_value fs * 10 ^ places ≡ r * 10 ^ length fs = digits_value-places_text places r (rest-below size places) in
      let both : (w * 10 ^ places + r) * 10 ^ length fs ≡ size * 10 ^ length fs = ap (λ n. n * 10 ^ length fs) (div-add-mod' size (10 ^ places)) in
      rw value (omega arith)

-- what is printed of a number is read back as that number
pub decimal_of-decimal_text : (places : ℕ) (v : ℤ) → unsigned_abs v ≤ 10 ^ 18 → decimal_of (decimal_text places v) places ≡ Ok v
unfolding decimal_text
decimal_of-decimal_text places (pos n) small =
    let ds = decimal (n / 10 ^ places) in
    let rest = fraction_text places (n % 10 ^ places) in
    let all = whole_digits places n small in
    let some = decimal_nonempty (n / 10 ^ places) (whole_small places n small) in
    decimal_of-text (ds ++ rest) (ds ++ rest) ds (places_text places (n % 10 ^ places)) places n false (Parts-size places n all)
    (is_negative-digits ds rest all some) (without_sign-digits ds rest all some) (text_digits places n small) some (text_value places n small) small
decimal_of-decimal_text places (negsuc n) small =
    let size = suc n in
    let ds = decimal (size / 10 ^ places) in
    let rest = fraction_text places (size % 10 ^ places) in
    let all = whole_digits places size small in
    decimal_of-text (45 ∷ (ds ++ rest)) (ds ++ rest) ds (places_text places (size % 10 ^ places)) places size true (Parts-size places size all)
    refl refl (text_digits places size small) (decimal_nonempty (size / 10 ^ places) (whole_small places size small)) (text_value places size small) small
