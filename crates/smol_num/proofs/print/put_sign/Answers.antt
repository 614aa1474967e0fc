use Rattle.std.proofs.Common.{pos, ◌<ℤ◌, sym, ◌∙◌, rules}
use Rattle.std.proofs.lemmas.Int.{ints}
use Rattle.smol_num.proofs.PrintLemmas.{sign_text-negative, put_front}
use Rattle.smol_num.proofs.print.put_sign.Goals as goal

pub returns-then-v-lt0-clause-text : goal.returns-then-v-lt0-clause-text
returns-then-v-lt0-clause-text c =
    let negative : c.args.v <ℤ pos 0 = search (rules, ints) in
    put_front c.args.out.now 45 c.requires ∙ sym (sign_text-negative c.args.v negative)
