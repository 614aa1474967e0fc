use Rattle.std.proofs.Common.{◌∙◌, sym, arith}
use Rattle.std.proofs.lemmas.Bool.{and_from}
use Rattle.std.proofs.lemmas.List.Folds.{list_all_more}
use Rattle.smol_num.specs.Digits.{is_digit}
use Rattle.smol_num.proofs.DigitsLemmas.{digits_value-take-lt, digits_value_more}
use Rattle.smol_num.proofs.digits.value_of.Goals as goal

pub overflow_mul-value : goal.overflow_mul-value
overflow_mul-value c =
    omega (arith, digits_value-take-lt c.args.digits.now c.loop-digit.digit-index c.loop-digit-test.true c.requires c.loop-digit.invariant.1)

pub overflow_add-value : goal.overflow_add-value
overflow_add-value c =
    let byte = c.type_inv.digits c.loop-digit.digit-index in
    omega (arith, digits_value-take-lt c.args.digits.now c.loop-digit.digit-index c.loop-digit-test.true c.requires c.loop-digit.invariant.1)

pub loop-digit-preserved : goal.loop-digit-preserved
loop-digit-preserved c =
    let value = digits_value_more c.args.digits.now c.loop-digit.digit-index c.loop-digit-test.true in
    let all = list_all_more is_digit c.args.digits.now c.loop-digit.digit-index 0 c.loop-digit-test.true in
    (omega (arith, c.from.ensures, c.loop-digit.invariant.0), all ∙ and_from _ _ c.loop-digit.invariant.1 (sym c.is_ascii_digit.ensures.value ∙ c.if-not-is_ascii_digit.false))
