use Rattle.std.proofs.Common.{◌≡◌}
use Rattle.smol_cells.specs.TouchingLeft.{rows_left, touching_left}
use Rattle.smol_cells.proofs.touching.TouchingIterator.next.Given as goal

abbrev pub invariant-loop-self : goal.invariant-loop-self
invariant-loop-self l = touching_left l.self ≡ touching_left l.initial.self

abbrev pub decreases-loop-self : goal.decreases-loop-self
decreases-loop-self l = rows_left l.self
