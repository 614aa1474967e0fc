use Rattle.smol_births.proofs.Born.{born_all}
use Rattle.smol_births.proofs.birth.bear.Goals as goal

pub returns : goal.returns
returns c =
    let reaction = c.args.reaction.now in
    let past = rw c.as_slice-product-items.ensures at c.loop-index-test.false in
    born_all c.args.event.now reaction.placement reaction.products c.args.serial c.loop-index.index c.args.births.now.items c.loop-index.births.items past c.loop-index.invariant
