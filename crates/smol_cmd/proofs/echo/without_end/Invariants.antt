use Rattle.std.proofs.Common.{◌≡◌, ◌≤◌, ◌+◌, length, take}
use Rattle.std.specs.List.{suffix_len}
use Rattle.smol_text.specs.Lines.{separates}
use Rattle.smol_cmd.proofs.echo.without_end.Given as goal

-- only separators stand behind the end so far
abbrev pub invariant-loop-end : goal.invariant-loop-end
invariant-loop-end l = record {
  within : l.end ≤ length l.part;
  rest : l.end + suffix_len separates l.part ≡ length l.part + suffix_len separates (take l.end l.part);
}

abbrev pub decreases-loop-end : goal.decreases-loop-end
decreases-loop-end l = l.end
