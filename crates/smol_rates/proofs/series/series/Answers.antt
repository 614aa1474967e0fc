use Rattle.std.proofs.Common.{◌≡◌, ◌*◌, ◌/◌, suc, refl, sym, ap, ◌∙◌, arith, add-one}
use Rattle.smol_rates.specs.Series.{term, unit}
use Rattle.smol_rates.proofs.SeriesLemmas.{series_is, sum_up, sum_up-le, sum_up-more, sum_up-start, term-times, term_small}
use Rattle.smol_rates.proofs.series.series.Goals as goal

pub loop-number-init : goal.loop-number-init
loop-number-init c = (refl, sym (sum_up-start (term c.args.x)))

pub overflow_mul-term : goal.overflow_mul-term
overflow_mul-term c =
    let small = term-times c.args.x c.loop-number.number c.requires in
    rw c.loop-number.invariant.0 (omega (arith, small))

pub overflow_add-sum : goal.overflow_add-sum
overflow_add-sum c =
    let number = c.loop-number.number in
    let next : c.loop-number.term * c.args.x / (c.from.result * unit) ≡ term c.args.x (suc number) =
    rw (c.loop-number.invariant.0, c.from.ensures, add-one) refl in
    let small = term_small c.args.x (suc number) c.requires in
    let before = sum_up-le (term c.args.x) number unit (λ k. term_small c.args.x k c.requires) in
    omega (arith, next, small, before, c.loop-number.invariant.1)

pub loop-number-preserved : goal.loop-number-preserved
loop-number-preserved c =
    let number = c.loop-number.number in
    let next : c.loop-number.term * c.args.x / (c.from.result * unit) ≡ term c.args.x (suc number) =
    rw (c.loop-number.invariant.0, c.from.ensures, add-one) refl in
    let more = sum_up-more (term c.args.x) number in
    rw add-one (next, omega (arith, next, more, c.loop-number.invariant.1))

pub returns : goal.returns
returns c =
    let last : c.loop-number.number ≡ 16 = omega arith in
    c.loop-number.invariant.1 ∙ ap (sum_up (term c.args.x)) last ∙ series_is c.args.x
