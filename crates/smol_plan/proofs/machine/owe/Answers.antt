use Rattle.std.proofs.Common.{arith}
use Rattle.smol_plan.proofs.BoardLemmas.{after_owing-set}
use Rattle.smol_plan.proofs.machine.owe.Goals as goal

pub returns-in-Some : goal.returns-in-Some
returns-in-Some c k l =
    let next = c.in-Some.ensures in
    after_owing-set c.args.plan.now c.args.standings.now c.args.pair c.args.side c.args.worker c.in-Some.next c.in-Some.next_side (omega (arith, next.next.in_list, c.requires.one_each)) next.on_side next.undone next.undoes c.set_ower.new.self c.set_ower.ensures k
