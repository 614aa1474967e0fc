use Rattle.std.proofs.Common.{◌≡◌, ◌-◌, ◌*◌, ◌/◌, unsigned_abs, refl, sym, ap, ◌∙◌, arith, rules}
use Rattle.smol_rates.specs.Series.{exponential, unit}
use Rattle.smol_rates.specs.Rates.{all_words, certain_from, no_words, part_of_32, threshold_of}
use Rattle.smol_rates.proofs.RatesLemmas.{threshold_certain, threshold_grows, threshold_none, threshold_other}
use Rattle.smol_rates.proofs.threshold.threshold_of.Goals as goal

pub returns-then-product-ge-CERTAIN_FROM : goal.returns-then-product-ge-CERTAIN_FROM
returns-then-product-ge-CERTAIN_FROM c =
    let step : c.unsigned_abs.result ≡ unsigned_abs c.args.step = search rules in
    let product : c.from.result * c.from-2.result ≡ c.args.rate * unsigned_abs c.args.step = rw (c.from.ensures, c.from-2.ensures, step) refl in
    let is = threshold_certain c.args.rate (unsigned_abs c.args.step) (omega (arith, product)) in
    record {
      value = ap (λ words. record { 0 = words }) (sym is);
      most = omega arith;
      never = λ none. omega (arith, is, threshold_none c.args.rate (unsigned_abs c.args.step) none);
      grows = threshold_grows;
    }

pub returns : goal.returns
returns c =
    let step : c.unsigned_abs.result ≡ unsigned_abs c.args.step = search rules in
    let product : c.from.result * c.from-2.result ≡ c.args.rate * unsigned_abs c.args.step = rw (c.from.ensures, c.from-2.ensures, step) refl in
    let other = threshold_other c.args.rate (unsigned_abs c.args.step) (omega (arith, product)) in
    let power : c.exponential-power.result ≡ exponential (part_of_32 c.args.rate (unsigned_abs c.args.step)) =
    c.exponential-power.ensures.value ∙ ap (λ product. exponential (product * unit / certain_from)) product in
    let is : all_words - c.no_words.result ≡ (threshold_of c.args.rate (unsigned_abs c.args.step)).0 =
    ap (λ no. all_words - no) (c.no_words.ensures.value ∙ ap no_words power) ∙ sym other in
    record {
      value = ap (λ words. record { 0 = words }) is;
      most = omega arith;
      never = λ none. is ∙ threshold_none c.args.rate (unsigned_abs c.args.step) none;
      grows = threshold_grows;
    }
