use Rattle.std.proofs.Common.{◌≡◌}
use Rattle.smol_cmd.specs.Echo.{behind_words}
use Rattle.smol_cmd.proofs.echo.behind_words.Given as goal

-- what stands behind the words passed so far
abbrev pub invariant-loop : goal.invariant-loop
invariant-loop l = l.rest ≡ behind_words l.counter l.part
