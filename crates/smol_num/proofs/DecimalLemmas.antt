-- A decimal's number, from its parts.
use Rattle.std.proofs.Common.{Result, ◌≡◌, ℕ, ◌+◌, ◌*◌, ◌^◌, ◌++◌, Bool, true, false, cond, List, length, Err, sym, ap, ◌∙◌}
use Rattle.smol_num.specs.declared.num_fault.NumFault.{NumFault}
use Rattle.smol_num.specs.declared.num_fault.NumFault.TheVariants.{NotNumber}
use Rattle.smol_num.specs.Digits.{digits_value}
use Rattle.smol_num.specs.Decimal.{is_negative, whole_part, fraction, exponent, is_decimal, raised_by, lowered_by, whole_number, signed_result, decimal_of}

-- a word that is no decimal
pub decimal_of-other : (word : List ℕ) (places : ℕ) → is_decimal word ≡ false → decimal_of word places ≡ Err NotNumber
unfolding decimal_of
decimal_of-other word places other =
    ap (λ t. cond t (signed_result (is_negative word) (whole_number (digits_value (whole_part word ++ fraction word) * 10 ^ (places + raised_by (exponent word))) (10 ^ (length (fraction word) + lowered_by (exponent word))))) (Err NotNumber)) other

-- a decimal, by its parts
pub decimal_of-parts : (word : List ℕ) (places : ℕ) (negative : Bool) (whole part : List ℕ) (raised lowered : ℕ) → is_decimal word ≡ true → negative ≡ is_negative word → whole ≡ whole_part word → part ≡ fraction word → raised ≡ raised_by (exponent word) → lowered ≡ lowered_by (exponent word) → signed_result negative (whole_number (digits_value (whole ++ part) * 10 ^ (places + raised)) (10 ^ (length part + lowered))) ≡ decimal_of word places
unfolding decimal_of
decimal_of-parts word places negative whole part raised lowered found is_neg is_whole is_part is_raised is_lowered =
    ap (λ n. signed_result n (whole_number (digits_value (whole ++ part) * 10 ^ (places + raised)) (10 ^ (length part + lowered)))) is_neg
    ∙ ap (λ w. signed_result (is_negative word) (whole_number (digits_value (w ++ part) * 10 ^ (places + raised)) (10 ^ (length part + lowered)))) is_whole
    ∙ ap (λ p. signed_result (is_negative word) (whole_number (digits_value (whole_part word ++ p) * 10 ^ (places + raised)) (10 ^ (length p + lowered)))) is_part
    ∙ ap (λ r. signed_result (is_negative word) (whole_number (digits_value (whole_part word ++ fraction word) * 10 ^ (places + r)) (10 ^ (length (fraction word) + lowered)))) is_raised
    ∙ ap (λ l. signed_result (is_negative word) (whole_number (digits_value (whole_part word ++ fraction word) * 10 ^ (places + raised_by (exponent word))) (10 ^ (length (fraction word) + l)))) is_lowered
    ∙ sym (ap (λ t. cond t (signed_result (is_negative word) (whole_number (digits_value (whole_part word ++ fraction word) * 10 ^ (places + raised_by (exponent word))) (10 ^ (length (fraction word) + lowered_by (exponent word))))) (Err NotNumber)) found)

-- the same for the answer that was read
pub decimal_of-read : (word : List ℕ) (places : ℕ) (negative : Bool) (whole part : List ℕ) (raised lowered : ℕ) (size : Result ℕ NumFault) → is_decimal word ≡ true → negative ≡ is_negative word → whole ≡ whole_part word → part ≡ fraction word → raised ≡ raised_by (exponent word) → lowered ≡ lowered_by (exponent word) → size ≡ whole_number (digits_value (whole ++ part) * 10 ^ (places + raised)) (10 ^ (length part + lowered)) → signed_result negative size ≡ decimal_of word places
decimal_of-read word places negative whole part raised lowered size found is_neg is_whole is_part is_raised is_lowered is_size =
    ap (signed_result negative) is_size ∙ decimal_of-parts word places negative whole part raised lowered found is_neg is_whole is_part is_raised is_lowered
