use Rattle.std.proofs.Common.{◌<◌, length, Some, sym, rules}
use Rattle.smol_reactions.proofs.Lists.{changed_is}
use Rattle.smol_reactions.proofs.reactions.keep_chance.Goals as goal

pub returns-then-number-len : goal.returns-then-number-len
returns-then-number-len c =
    let within : c.args.number < length c.args.chances.now.items = search rules in
    sym (changed_is (λ _. Some c.args.chance) c.args.number c.args.chances.now.items c.index_mut.result.now within)
