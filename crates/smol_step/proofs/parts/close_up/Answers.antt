use Rattle.std.proofs.Common.{◌≡◌, arith}
use Rattle.smol_step.proofs.Halves.{take_both}
use Rattle.smol_step.proofs.parts.close_up.Goals as goal

pub returns-else-front-middle-clause-items : goal.returns-else-front-middle-clause-items
returns-else-front-middle-clause-items g c =
    let here : c.args.front ≡ c.args.middle = omega arith in
    rw here (take_both c.args.items.now c.args.middle c.args.back)
