use Rattle.std.proofs.Common.{[]}
use Rattle.smol_travel.specs.Looked.{IsBestBut}
use Rattle.smol_travel.proofs.decision.decision.Given as goal

-- the best effect of the panels and of the walls looked at so far
abbrev pub invariant-loop-number : goal.invariant-loop-number
invariant-loop-number l = IsBestBut l.panels l.leg l.moment l.species l.number [] l.best
