use Rattle.std.proofs.Common.{◌≡◌, ◌||◌, not, true, false, sym, ap, ◌∙◌}
use Rattle.std.specs.Prelude.{is_some}
use Rattle.std.specs.List.{list_any, after_first}
use Rattle.smol_num.specs.Decimal.{is_mark, is_exponent}
use Rattle.smol_num.proofs.Places.{is_some-position, after_first-position}
use Rattle.smol_num.proofs.parts.exponent_of.Goals as goal

pub returns-in-Some-clause-found : goal.returns-in-Some-clause-found
returns-in-Some-clause-found c =
    let marked : list_any is_mark c.args.unsigned.now ≡ true = sym (is_some-position is_mark c.args.unsigned.now) ∙ ap is_some (sym c.first_mark.ensures ∙ c.in-Some.is) in
    let found : is_some c.read_exponent.result ≡ is_exponent (after_first is_mark c.args.unsigned.now) =
    c.read_exponent.ensures.found ∙ ap is_exponent (after_first-position is_mark c.args.unsigned.now c.in-Some.at (sym c.in-Some.is ∙ c.first_mark.ensures)) in
    sym (ap (λ t. not t || is_exponent (after_first is_mark c.args.unsigned.now)) marked ∙ sym found)

pub returns-in-None-clause-found : goal.returns-in-None-clause-found
returns-in-None-clause-found c =
    let marked : list_any is_mark c.args.unsigned.now ≡ false = sym (is_some-position is_mark c.args.unsigned.now) ∙ ap is_some (sym c.first_mark.ensures ∙ c.in-None.is) in
    sym (ap (λ t. not t || is_exponent (after_first is_mark c.args.unsigned.now)) marked)
