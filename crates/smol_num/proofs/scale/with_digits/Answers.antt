use Rattle.std.proofs.Common.{arith}
use Rattle.smol_num.proofs.Tens.{with_digits-more}
use Rattle.smol_num.proofs.scale.with_digits.Goals as goal

pub loop-digit-preserved : goal.loop-digit-preserved
loop-digit-preserved c =
    let more = with_digits-more c.args.size c.args.digits.now c.loop-digit.digit-index 1000000000000000001 (omega arith) c.loop-digit-test.true in
    cc
