use Rattle.std.proofs.Common.{w64, ap, ◌∙◌}
use Rattle.std.proofs.lemmas.Int.{to_z-of_z}
use Rattle.smol_num.specs.Decimal.{decimal_of}
use Rattle.smol_num.specs.Print.{decimal_text}
use Rattle.smol_num.proofs.ReadBack.{decimal_of-decimal_text}
use Rattle.smol_num.proofs.print.write_nano.Goals as goal

pub returns-clause-read_back : goal.returns-clause-read_back
returns-clause-read_back c =
    λ small. ap (λ t. decimal_of t 9) (c.write_decimal.ensures.text ∙ ap (decimal_text 9) (to_z-of_z w64 c.args.v c.ranges.v)) ∙ decimal_of-decimal_text 9 c.args.v small
