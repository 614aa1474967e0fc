use Rattle.std.proofs.Common.{arith}
use Rattle.smol_num.proofs.DigitsLemmas.{digits_value-three}
use Rattle.smol_num.proofs.parts.read_exponent.Goals as goal

pub overflow_cast-size : goal.overflow_cast-size
overflow_cast-size c = grind (arith, digits_value-three, c.in_ok-size.ensures)

pub returns-then-negative-clause-lowered_is_small : goal.returns-then-negative-clause-lowered_is_small
returns-then-negative-clause-lowered_is_small c = grind (arith, digits_value-three, c.in_ok-size.ensures)

pub returns-clause-raised_is_small : goal.returns-clause-raised_is_small
returns-clause-raised_is_small c = grind (arith, digits_value-three, c.in_ok-size.ensures)
