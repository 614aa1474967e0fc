use Rattle.std.proofs.Common.{[], ◌+◌, arith}
use Rattle.smol_travel.proofs.Deciding.{best_more, best_of_all}
use Rattle.smol_travel.proofs.Looking.{count_is}
use Rattle.smol_sheets.proofs.Numbered.{sheet_count}
use Rattle.smol_travel.proofs.decision.decision.Goals as goal

pub loop-number-preserved : goal.loop-number-preserved
loop-number-preserved c =
    c.better-best.ensures (c.loop-number.number + 1) []
    (best_more c.args.panels.now c.args.leg.now c.args.moment.now c.args.species c.loop-number.number c.loop-number.best c.loop-number.invariant)

pub returns-clause-value : goal.returns-clause-value
returns-clause-value c =
    let draft = c.args.panels.now in
    best_of_all draft c.args.leg.now c.args.moment.now c.args.species c.loop-number.number c.loop-number.best
    (omega (arith, count_is draft, sheet_count draft, c.loop-number-test.false, c.sheets-number-end.ensures.count)) c.loop-number.invariant
