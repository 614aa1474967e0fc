use Rattle.std.proofs.Common.{arith}
use Rattle.smol_sheets.proofs.Barring.{one_bars}
use Rattle.smol_sheets.proofs.panels.Panels.is_barred_from.Goals as goal

pub returns-then-bars_at-clause-barred : goal.returns-then-bars_at-clause-barred
returns-then-bars_at-clause-barred c = λ _.
    one_bars c.args.self.now c.args.species c.args.a.now c.args.b.now c.loop-number.number c.bars_at.result (omega (arith, c.loop-number-test.true, c.sheets-number-end.ensures.count)) c.bars_at.ensures c.if-bars_at.true
