use Rattle.smol_sheets.specs.Sheets.{NoneBars}
use Rattle.smol_sheets.proofs.panels.Panels.is_barred_from.Given as goal

-- none of the panels and walls before this one bars
abbrev pub invariant-loop-number : goal.invariant-loop-number
invariant-loop-number l = NoneBars l.self l.species l.a l.b l.first l.number
