use Rattle.std.proofs.Common.{◌≡◌, take, true}
use Rattle.std.specs.List.{list_all}
use Rattle.smol_num.specs.Digits.{is_digit, digits_value}
use Rattle.smol_num.proofs.digits.value_of.Given as goal

abbrev pub invariant-loop-digit : goal.invariant-loop-digit
invariant-loop-digit l =
    (l.value ≡ digits_value (take l.digit-index l.digits)) × (list_all is_digit (take l.digit-index l.digits) ≡ true)
