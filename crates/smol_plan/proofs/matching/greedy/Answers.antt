use Rattle.std.proofs.Common.{nat_eq}
use Rattle.std.specs.HashSet.{contains}
use Rattle.smol_plan.proofs.MatchingLemmas.{serial_more}
use Rattle.smol_plan.proofs.matching.greedy.Goals as goal

pub loop-pair-preserved : goal.loop-pair-preserved
loop-pair-preserved c =
    rw c.in_ok-push.ensures.items (serial_more c.loop-pair.fired.items (contains nat_eq c.loop-pair.taken) (contains nat_eq c.take_both.new.taken) c.args.pairs.now _ c.loop-pair.pair-index c.in_ok-fires.fires c.loop-pair-test.true c.in_ok-fires.ensures.fires c.in_ok-fires.ensures.taken c.loop-pair.invariant)
