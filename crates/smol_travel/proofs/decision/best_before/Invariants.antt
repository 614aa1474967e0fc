use Rattle.std.proofs.Common.{ℕ, ◌<◌, length}
use Rattle.std.specs.Prelude.{All}
use Rattle.smol_cells.specs.TouchingLeft.{touching_left}
use Rattle.smol_travel.specs.Looked.{IsBestBut}
use Rattle.smol_travel.proofs.decision.best_before.Given as goal

-- the best effect of the panels that are not left to be looked at
abbrev pub invariant-loop-number : goal.invariant-loop-number
invariant-loop-number l = record {
  known : All (λ (number : ℕ). number < length l.panels.panels) (touching_left l.number-iterator);
  best : IsBestBut l.panels l.leg l.moment l.species l.first (touching_left l.number-iterator) l.best;
}
