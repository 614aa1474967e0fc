use Rattle.std.proofs.Common.{◌≤◌, ◌/◌, length, decimal, unsigned_abs, w64, ap, ◌∙◌, arith}
use Rattle.std.proofs.lemmas.Int.{to_z-of_z}
use Rattle.smol_num.specs.Print.{sign_text}
use Rattle.smol_num.proofs.PrintLemmas.{length-whole_part, unit-some, rest-below, decimal_text-parts}
use Rattle.smol_num.proofs.print.write_decimal.Goals as goal

pub nonzero_div-size : goal.nonzero_div-size
nonzero_div-size c = rw c.pow-unit.ensures (unit-some c.args.places)

pub nonzero_rem-size : goal.nonzero_rem-size
nonzero_rem-size c = rw c.pow-unit.ensures (unit-some c.args.places)

pub put_digits-at-requires : goal.put_digits-at-requires
put_digits-at-requires c =
    let few : length (decimal (c.unsigned_abs-size.result / c.pow-unit.result)) ≤ 13 =
    rw c.pow-unit.ensures (length-whole_part c.unsigned_abs-size.result c.args.places c.requires.least c.unsigned_abs-size.ensures.bound) in
    omega arith

pub put_fraction-requires-clause-rest : goal.put_fraction-requires-clause-rest
put_fraction-requires-clause-rest c = rw c.pow-unit.ensures (rest-below c.unsigned_abs-size.result c.args.places)

pub put_fraction-requires-clause-room : goal.put_fraction-requires-clause-room
put_fraction-requires-clause-room c =
    let few : length (decimal (c.unsigned_abs-size.result / c.pow-unit.result)) ≤ 13 =
    rw c.pow-unit.ensures (length-whole_part c.unsigned_abs-size.result c.args.places c.requires.least c.unsigned_abs-size.ensures.bound) in
    omega arith

pub returns-clause-within : goal.returns-clause-within
returns-clause-within c =
    let few : length (decimal (c.unsigned_abs-size.result / c.pow-unit.result)) ≤ 13 =
    rw c.pow-unit.ensures (length-whole_part c.unsigned_abs-size.result c.args.places c.requires.least c.unsigned_abs-size.ensures.bound) in
    omega arith

pub returns-clause-text : goal.returns-clause-text
returns-clause-text c =
    decimal_text-parts c.args.v c.args.places c.pow-unit.result c.unsigned_abs-size.result _ _ _ c.pow-unit.ensures (c.unsigned_abs-size.ensures.value ∙ ap unsigned_abs (to_z-of_z w64 c.args.v c.ranges.v)) (c.put_sign-at.ensures.text ∙ ap sign_text (to_z-of_z w64 c.args.v c.ranges.v)) c.put_digits-at.ensures.text c.put_fraction.ensures.text
