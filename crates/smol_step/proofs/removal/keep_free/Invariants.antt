use Rattle.std.proofs.Common.{take}
use Rattle.std.specs.List.{items_where_true}
use Rattle.smol_step.proofs.InPlace.{InPlace}
use Rattle.smol_step.proofs.removal.keep_free.Given as goal

-- of the molecules so far those that are free are kept, and the molecules behind them stand
abbrev pub invariant-loop-i : goal.invariant-loop-i
invariant-loop-i l = InPlace (items_where_true (take l.i l.free) (take l.i l.initial.mols.items)) l.mols.items l.initial.mols.items l.left l.i
