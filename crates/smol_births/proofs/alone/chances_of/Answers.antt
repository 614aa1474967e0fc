use Rattle.smol_births.proofs.Table.{chances_more}
use Rattle.smol_births.proofs.alone.chances_of.Goals as goal

pub loop-species-preserved : goal.loop-species-preserved
loop-species-preserved c =
    let chance = rw c.reactions-reactions.ensures.value at c.chance_of.ensures in
    chances_more c.args.config.now.reactions c.loop-species.species c.chance_of.result c.loop-species.chances.items c.push.new.self.items
    c.loop-species.invariant chance c.in_ok-push.ensures.items
