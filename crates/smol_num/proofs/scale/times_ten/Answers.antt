use Rattle.std.proofs.Common.{arith}
use Rattle.smol_num.proofs.Tens.{times_ten-more}
use Rattle.smol_num.proofs.scale.times_ten.Goals as goal

pub loop-turn-preserved : goal.loop-turn-preserved
loop-turn-preserved c =
    let more = times_ten-more c.args.size c.loop-turn._turn 1000000000000000001 (omega arith) in
    cc
