use Rattle.std.proofs.Common.{◌≡◌, ◌-◌, ◌≤◌, [], List, drop, length}
use Rattle.smol_text.specs.Spans.{stated_lines}
use Rattle.smol_config.specs.Said.{Said}
use Rattle.smol_config.specs.Reader.{read_from}
use Rattle.smol_config.specs.SoFar.{IsSoFar}
use Rattle.smol_config.specs.Tables.{Holds}
use Rattle.smol_config.proofs.reader.read_lines.Given as goal

-- the tables hold what the lines so far say, and reading on behind these gives what reading all gives
abbrev pub invariant-loop-at : goal.invariant-loop-at
invariant-loop-at l = record {
  within : l.at ≤ length (stated_lines l.text);
  read : (before : List Said) × Holds l.tables before × IsSoFar before × (read_from [] (stated_lines l.text) ≡ read_from before (drop l.at (stated_lines l.text)));
}

abbrev pub decreases-loop-at : goal.decreases-loop-at
decreases-loop-at l = length (stated_lines l.text) - l.at
