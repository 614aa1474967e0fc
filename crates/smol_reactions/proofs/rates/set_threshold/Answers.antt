use Rattle.std.proofs.Common.{◌<◌, length, set, sym, ap, ◌∙◌, rules}
use Rattle.smol_reactions.specs.Rates.{with_threshold}
use Rattle.smol_reactions.proofs.Lists.{changed_is}
use Rattle.smol_reactions.proofs.rates.set_threshold.Goals as goal

pub returns-then-number-len : goal.returns-then-number-len
returns-then-number-len c =
    let within : c.args.number < length c.args.list.now.items = search rules in
    ap (λ thing. set c.args.list.now.items c.args.number (with_threshold c.args.threshold thing)) c.index_mut.ensures.value
    ∙ sym (changed_is (with_threshold c.args.threshold) c.args.number c.args.list.now.items c.index_mut.result.now within)
