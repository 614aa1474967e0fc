-- Decimals: an optional sign, digits with at most one point, and an optional exponent.
use Rattle.std.specs.Prelude.{ℕ, ◌+◌, ◌*◌, ◌/◌, ◌%◌, ◌^◌, ◌++◌, ◌&&◌, ◌||◌, ◌==◌, not, Bool, false, List, [], ◌∷◌, length, nat_lt, nat_le, if◌then◌else◌, Result, Ok, Err, ℤ, pos, neg_ℤ}
use Rattle.std.specs.List.{list_all, list_any, before_first, after_first}
use Rattle.smol_num.specs.declared.num_fault.NumFault.{NumFault}
use Rattle.smol_num.specs.declared.num_fault.NumFault.TheVariants.{NotNumber, TooFine, TooLarge}
use Rattle.smol_num.specs.Digits.{is_digit, digits_value}

-- `+` or `-`
abbrev pub is_sign : ℕ → Bool
is_sign b = b == 43 || b == 45

-- a decimal point
abbrev pub is_point : ℕ → Bool
is_point b = b == 46

-- `e` or `E`, which stands before an exponent
abbrev pub is_mark : ℕ → Bool
is_mark b = b == 101 || b == 69

-- it begins with `-`
abbrev pub is_negative : List ℕ → Bool
is_negative [] = false
is_negative (b ∷ bs) = b == 45

-- what is left of it after its sign, where it begins with one
abbrev pub without_sign : List ℕ → List ℕ
without_sign [] = []
without_sign (b ∷ bs) = if is_sign b then bs else b ∷ bs

-- what stands between the sign and the exponent
abbrev pub mantissa : List ℕ → List ℕ
mantissa word = before_first is_mark (without_sign word)

-- what stands before the point, or all of the mantissa where it has no point
abbrev pub whole_part : List ℕ → List ℕ
whole_part word = before_first is_point (mantissa word)

-- what stands after the point
abbrev pub fraction : List ℕ → List ℕ
fraction word = after_first is_point (mantissa word)

-- what stands after the mark of the exponent
abbrev pub exponent : List ℕ → List ℕ
exponent word = after_first is_mark (without_sign word)

-- a mantissa without its point
abbrev pub around_point : List ℕ → List ℕ
around_point bytes = before_first is_point bytes ++ after_first is_point bytes

-- at least one digit, and nothing but digits before and after the point
abbrev pub is_mantissa : List ℕ → Bool
is_mantissa bytes = nat_lt 0 (length (around_point bytes)) && list_all is_digit (around_point bytes)

-- one to three digits, after a sign or none
abbrev pub is_exponent : List ℕ → Bool
is_exponent bytes =
    nat_lt 0 (length (without_sign bytes)) && nat_le (length (without_sign bytes)) 3 && list_all is_digit (without_sign bytes)

-- a word in the form of a decimal
abbrev pub is_decimal : List ℕ → Bool
is_decimal word =
    is_mantissa (mantissa word) && (not (list_any is_mark (without_sign word)) || is_exponent (exponent word))

-- the power of ten that an exponent multiplies by
abbrev pub raised_by : List ℕ → ℕ
raised_by bytes = if is_negative bytes then 0 else digits_value (without_sign bytes)

-- the power of ten that an exponent divides by
abbrev pub lowered_by : List ℕ → ℕ
lowered_by bytes = if is_negative bytes then digits_value (without_sign bytes) else 0

-- the quotient of n by d, where it is a whole number of at most 10^18
abbrev pub whole_number : ℕ → ℕ → Result ℕ NumFault
whole_number n d =
    if n % d == 0
    then (if nat_le (n / d) (10 ^ 18) then Ok (n / d) else Err TooLarge)
    else Err TooFine

-- a number with its sign
abbrev pub signed : Bool → ℕ → ℤ
signed negative size = if negative then neg_ℤ (pos size) else pos size

-- the answer with a sign
abbrev pub signed_result : Bool → Result ℕ NumFault → Result ℤ NumFault
signed_result negative (Ok size) = Ok (signed negative size)
signed_result negative (Err fault) = Err fault

-- the number that a decimal spells, counted in units of 10^-places
unfoldable pub decimal_of : List ℕ → ℕ → Result ℤ NumFault
decimal_of word places =
    if is_decimal word
    then signed_result (is_negative word)
    (whole_number
    (digits_value (whole_part word ++ fraction word) * 10 ^ (places + raised_by (exponent word)))
    (10 ^ (length (fraction word) + lowered_by (exponent word))))
    else Err NotNumber
