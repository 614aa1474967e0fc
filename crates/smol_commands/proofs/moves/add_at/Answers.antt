use Rattle.smol_commands.proofs.Added.{one_more_added}
use Rattle.smol_commands.proofs.moves.add_at.Goals as goal

pub loop-i-preserved : goal.loop-i-preserved
loop-i-preserved c =
    one_more_added c.args.first c.args.species c.args.place.now c.loop-i.i c.from.result _ c.loop-i.mols.items _
    c.from.ensures c.loop-i.invariant c.in_ok-push.ensures.items
