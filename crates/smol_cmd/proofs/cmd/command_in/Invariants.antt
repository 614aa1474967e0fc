use Rattle.std.proofs.Common.{◌≡◌, ◌-◌, length}
use Rattle.smol_text.specs.Reading.{words_of}
use Rattle.smol_cmd.specs.Cmd.{command_in}
use Rattle.smol_cmd.proofs.Commanded.{behind_tests}
use Rattle.smol_cmd.proofs.cmd.command_in.Given as goal

-- the tests so far come before those of the COMMAND at this place
abbrev pub invariant-loop : goal.invariant-loop
invariant-loop l =
    command_in (length (words_of l.line)) l.known l.line l.first
    ≡ behind_tests l.tests (command_in (length (words_of l.line) - l.counter) l.known l.line l.at)
