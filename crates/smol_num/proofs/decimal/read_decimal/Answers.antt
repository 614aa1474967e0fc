use Rattle.std.proofs.Common.{Ok, Err, w64, sym, ap, ◌∙◌, rules}
use Rattle.std.proofs.lemmas.Int.{to_z-of_z}
use Rattle.smol_num.proofs.DecimalLemmas.{decimal_of-other, decimal_of-read}
use Rattle.smol_num.proofs.decimal.read_decimal.Goals as goal

pub returns-in_default : goal.returns-in_default
returns-in_default c = sym (decimal_of-other c.args.bytes.now c.args.places (sym c.in_default.ensures.found))

pub returns-in-Ok : goal.returns-in-Ok
returns-in-Ok c =
    let d = c.in-Some.decimal in
    let of = c.in-Some.ensures in
    ap Ok (to_z-of_z w64 c.with_sign.result (search rules) ∙ c.with_sign.ensures)
    ∙ decimal_of-read c.args.bytes.now c.args.places d.negative d.whole.now d.fraction.now d.exponent.raised d.exponent.lowered (Ok c.in-Ok.size)
    (sym of.found) of.negative of.whole of.fraction of.raised of.lowered (rw c.from.ensures at c.in-Ok.ensures)

pub returns-in-Err : goal.returns-in-Err
returns-in-Err c =
    let d = c.in-Some.decimal in
    let of = c.in-Some.ensures in
    decimal_of-read c.args.bytes.now c.args.places d.negative d.whole.now d.fraction.now d.exponent.raised d.exponent.lowered (Err c.in-Err.fault)
    (sym of.found) of.negative of.whole of.fraction of.raised of.lowered (rw c.from.ensures at c.in-Err.ensures)
