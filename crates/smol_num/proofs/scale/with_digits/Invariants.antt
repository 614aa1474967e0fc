use Rattle.std.proofs.Common.{◌≡◌, ◌+◌, ◌*◌, ◌^◌, min, take}
use Rattle.smol_num.specs.Digits.{digits_value}
use Rattle.smol_num.proofs.scale.with_digits.Given as goal

abbrev pub invariant-loop-digit : goal.invariant-loop-digit
invariant-loop-digit l = l.size ≡ min (l.fn.size * 10 ^ l.digit-index + digits_value (take l.digit-index l.digits)) (10 ^ 18 + 1)
