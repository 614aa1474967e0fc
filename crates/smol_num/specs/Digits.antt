-- Decimal digits, and the counts that are written with them.
use Rattle.std.specs.Prelude.{ℕ, ◌+◌, ◌-◌, ◌*◌, ◌^◌, ◌&&◌, Bool, List, [], ◌∷◌, length, nat_lt, nat_le, if◌then◌else◌, Result, Ok, Err}
use Rattle.std.specs.List.{list_all}
use Rattle.smol_num.specs.declared.num_fault.NumFault.{NumFault}
use Rattle.smol_num.specs.declared.num_fault.NumFault.TheVariants.{NotNumber, TooLarge}

-- a byte from `0` to `9`
abbrev pub is_digit : ℕ → Bool
is_digit b = nat_le 48 b && nat_le b 57

-- the number that digits spell: each digit counts as often as the power of ten of the digits after it
abbrev pub digits_value : List ℕ → ℕ
digits_value [] = 0
digits_value (b ∷ bs) = (b - 48) * 10 ^ length bs + digits_value bs

-- 1 to 20 digits and nothing else
abbrev pub is_count : List ℕ → Bool
is_count bytes = nat_lt 0 (length bytes) && nat_le (length bytes) 20 && list_all is_digit bytes

-- the number that a count spells, where it is no larger than `max`
abbrev pub count_of : List ℕ → ℕ → Result ℕ NumFault
count_of bytes max =
    if is_count bytes
    then (if nat_le (digits_value bytes) max then Ok (digits_value bytes) else Err TooLarge)
    else Err NotNumber
