use Rattle.std.proofs.Common.{◌<◌, length, set, sym, ap, ◌∙◌, rules}
use Rattle.smol_reactions.specs.Changes.{with_offset}
use Rattle.smol_reactions.proofs.Lists.{changed_is}
use Rattle.smol_reactions.proofs.reactions.set_offset.Goals as goal

pub returns-then-number-len : goal.returns-then-number-len
returns-then-number-len c =
    let within : c.args.number < length c.args.products.now.items = search rules in
    ap (λ thing. set c.args.products.now.items c.args.number (with_offset c.args.offset thing)) c.index_mut.ensures.value
    ∙ sym (changed_is (with_offset c.args.offset) c.args.number c.args.products.now.items c.index_mut.result.now within)
