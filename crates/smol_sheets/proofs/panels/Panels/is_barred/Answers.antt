use Rattle.std.proofs.Common.{sym}
use Rattle.smol_sheets.proofs.Barring.{rest_decides}
use Rattle.smol_sheets.proofs.panels.Panels.is_barred.Goals as goal

pub returns-then-is_barred_before : goal.returns-then-is_barred_before
returns-then-is_barred_before c = sym (c.is_barred_before.ensures.barred c.if-is_barred_before.true)

pub returns : goal.returns
returns c =
    rest_decides c.args.self.now c.args.species c.args.a.now c.args.b.now c.first_in_turn-first.result c.is_barred_from.result
    c.first_in_turn-first.ensures.count (c.is_barred_before.ensures.free c.if-is_barred_before.false) c.is_barred_from.ensures.barred c.is_barred_from.ensures.free
