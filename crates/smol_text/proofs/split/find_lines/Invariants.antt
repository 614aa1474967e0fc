use Rattle.std.proofs.Common.{◌≡◌, ◌-◌, ◌++◌, ◌≤◌, drop, length}
use Rattle.smol_text.specs.Lines.{raw_lines}
use Rattle.smol_text.specs.Spans.{lines_of}
use Rattle.smol_text.proofs.Onward.{fault_from, fault_of, placed_from}
use Rattle.smol_text.proofs.split.find_lines.Given as goal

abbrev pub invariant-loop-at : goal.invariant-loop-at
invariant-loop-at l = record {
  placed : l.lines.items ++ placed_from l.standing l.passed l.at (raw_lines (drop l.at l.bytes)) ≡ lines_of l.bytes;
  fault : fault_from l.standing l.passed (raw_lines (drop l.at l.bytes)) ≡ fault_of l.bytes;
  few : l.passed ≤ 65536;
}

abbrev pub decreases-loop-at : goal.decreases-loop-at
decreases-loop-at l = length l.bytes - l.at
