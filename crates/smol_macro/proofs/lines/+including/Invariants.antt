use Rattle.std.proofs.Common.{◌≡◌, ◌+◌, ◌-◌, ◌*◌, drop, length}
use Rattle.smol_edge.specs.Faults.{Tells}
use Rattle.smol_text.specs.Lines.{raw_lines}
use Rattle.smol_macro.proofs.Walks.{IsOnWay}
use Rattle.smol_macro.proofs.lines.+including.Given as goal

abbrev pub invariant-give_lines-loop-at : goal.invariant-give_lines-loop-at
invariant-give_lines-loop-at g l = record {
  names : l.files.names ≡ l.fn.files.names;
  on_way : Tells (g.S.Source.told l.fn.source) (g.S.Source.told l.source) (IsOnWay l.fn.files.names l.room l.bytes l.fn.walk l.walk l.fn.files l.files l.standing (raw_lines (drop l.at l.bytes)));
  no_fault : g.S.Source.faults l.source ≡ g.S.Source.faults l.fn.source;
}

abbrev pub decreases-give_lines-loop-at : goal.decreases-give_lines-loop-at
decreases-give_lines-loop-at g l = length l.bytes - l.at

-- a file within a file has less room
abbrev pub decreases-give_file : goal.decreases-give_file
decreases-give_file g l = 3 * l.room + 2

abbrev pub decreases-give_lines : goal.decreases-give_lines
decreases-give_lines g l = 3 * l.room + 1

abbrev pub decreases-give_line : goal.decreases-give_line
decreases-give_line g l = 3 * l.room
