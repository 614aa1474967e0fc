-- The grammar of decimals: which words spell a numeral, and which number a numeral is.
use Rattle.std.specs.Prelude.{◌≡◌, ◌⊎◌, ℕ, ◌+◌, ◌*◌, ◌^◌, ◌<◌, ◌≤◌, ◌++◌, Bool, true, false, List, [], ◌∷◌, length, if◌then◌else◌, Result, ℤ}
use Rattle.std.specs.List.{list_all}
use Rattle.smol_num.specs.declared.num_fault.NumFault.{NumFault}
use Rattle.smol_num.specs.Digits.{is_digit, digits_value}
use Rattle.smol_num.specs.Decimal.{whole_number, signed_result}

-- a sign, the digits before and after a point, and an exponent with a sign
pub record Numeral : Type 0 where
  pub negative : Bool
  pub whole : List ℕ
  pub fraction : List ℕ
  pub exponent_negative : Bool
  pub exponent : ℕ

-- how a sign is spelled: `-`, or else `+` or nothing
abbrev pub SpellsSign : Bool → List ℕ → Type 0
SpellsSign true text = text ≡ 45 ∷ []
SpellsSign false text = (text ≡ []) ⊎ (text ≡ 43 ∷ [])

-- how digits are spelled: with a point between whole part and fraction, or without a point and a fraction
abbrev pub SpellsDigits : List ℕ → List ℕ → List ℕ → Type 0
SpellsDigits whole fraction text = (text ≡ whole ++ 46 ∷ fraction) ⊎ ((text ≡ whole) × (fraction ≡ []))

-- an exponent of 0 may be left out
pub record SpellsNoExponent (negative : Bool) (size : ℕ) (text : List ℕ) : Type 0 where
  pub text_is : text ≡ []
  pub negative_is : negative ≡ false
  pub size_is : size ≡ 0

-- an exponent is spelled `e` or `E`, its sign, and one to three digits
pub record SpellsExponent (negative : Bool) (size : ℕ) (text : List ℕ) : Type 0 where
  pub mark : ℕ
  pub sign : List ℕ
  pub digits : List ℕ
  pub text_is : text ≡ mark ∷ (sign ++ digits)
  pub mark_is : (mark ≡ 101) ⊎ (mark ≡ 69)
  pub sign_is : SpellsSign negative sign
  pub some : 1 ≤ length digits
  pub few : length digits ≤ 3
  pub all_digits : list_all is_digit digits ≡ true
  pub size_is : size ≡ digits_value digits

-- how a numeral is spelled: its sign, its digits, of which there is at least one, and its exponent
pub record Spells (numeral : Numeral) (word : List ℕ) : Type 0 where
  pub sign : List ℕ
  pub mantissa : List ℕ
  pub exponent : List ℕ
  pub word_is : word ≡ sign ++ (mantissa ++ exponent)
  pub sign_is : SpellsSign numeral.negative sign
  pub mantissa_is : SpellsDigits numeral.whole numeral.fraction mantissa
  pub exponent_is : SpellsNoExponent numeral.exponent_negative numeral.exponent exponent
      ⊎ SpellsExponent numeral.exponent_negative numeral.exponent exponent
  pub some : 0 < length (numeral.whole ++ numeral.fraction)
  pub all_digits : list_all is_digit (numeral.whole ++ numeral.fraction) ≡ true

-- a numeral's number in units of 10^-places: its digits * 10^(places + exponent - digits of the fraction), where that is whole
abbrev pub number_of : Numeral → ℕ → Result ℤ NumFault
number_of numeral places =
    signed_result numeral.negative
    (whole_number
    (digits_value (numeral.whole ++ numeral.fraction) * 10 ^ (places + (if numeral.exponent_negative then 0 else numeral.exponent)))
    (10 ^ (length numeral.fraction + (if numeral.exponent_negative then numeral.exponent else 0))))
