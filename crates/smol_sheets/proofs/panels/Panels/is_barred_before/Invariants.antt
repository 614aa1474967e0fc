use Rattle.std.proofs.Common.{ℕ, ◌<◌, length}
use Rattle.std.specs.Prelude.{All}
use Rattle.smol_cells.specs.TouchingLeft.{touching_left}
use Rattle.smol_sheets.specs.Sheets.{AreAmong}
use Rattle.smol_sheets.proofs.panels.Panels.is_barred_before.Given as goal

-- each panel that bars is among those not yet looked at
abbrev pub invariant-loop-number : goal.invariant-loop-number
invariant-loop-number l = record {
  known : All (λ (number : ℕ). number < length l.self.panels) (touching_left l.number-iterator);
  among : AreAmong l.self l.species l.a l.b (touching_left l.number-iterator);
}
