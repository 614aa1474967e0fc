-- The numbers of the statuses.
use Rattle.std.specs.Prelude.{ℕ}
use Rattle.smol_run.specs.declared.status.Status.{Status}
use Rattle.smol_run.specs.declared.status.Status.TheVariants.{Done, Usage, Refused, Input, Output, Memory, Over}

-- the exit status of the program
abbrev pub exit_code_of : Status → ℕ
exit_code_of Done = 0
exit_code_of Usage = 1
exit_code_of Refused = 2
exit_code_of Input = 3
exit_code_of Output = 4
exit_code_of Memory = 5
exit_code_of Over = 6
