-- Decimals as they are printed.
use Rattle.std.specs.Prelude.{ℕ, zero, suc, ◌+◌, ◌/◌, ◌%◌, ◌^◌, ◌++◌, ◌==◌, List, [], ◌∷◌, if◌then◌else◌, decimal, ℤ, pos, negsuc, unsigned_abs}

-- `-` before a negative number
abbrev pub sign_text : ℤ → List ℕ
sign_text (pos n) = []
sign_text (negsuc n) = 45 ∷ []

-- the digits of a rest of units, 10^places of which make 1, place by place until nothing is left
abbrev pub places_text : ℕ → ℕ → List ℕ
places_text zero rest = []
places_text (suc places) rest =
    if rest == 0 then [] else (48 + rest / 10 ^ places) ∷ places_text places (rest % 10 ^ places)

-- a point and those digits, or nothing where there is no rest
abbrev pub fraction_text : ℕ → ℕ → List ℕ
fraction_text places rest = if rest == 0 then [] else 46 ∷ places_text places rest

-- a number of units of 10^-places as a decimal without trailing zeros
unfoldable pub decimal_text : ℕ → ℤ → List ℕ
decimal_text places v =
    sign_text v ++ (decimal (unsigned_abs v / 10 ^ places) ++ fraction_text places (unsigned_abs v % 10 ^ places))
