use Rattle.std.proofs.Common.{◌≡◌, ◌++◌, drop, false}
use Rattle.smol_cmd.specs.Echo.{text_from}
use Rattle.smol_cmd.proofs.echo.spelled.Given as goal

-- the text so far comes before that of the other bytes
abbrev pub invariant-loop-byte : goal.invariant-loop-byte
invariant-loop-byte l = l.text ++ text_from l.escaped (drop l.byte-index l.bytes) ≡ text_from false l.bytes
