-- The exit status of the program.
use Rattle.std.specs.Prelude.{ℕ, Result, Ok, Err}
use Rattle.smol_run.specs.declared.status.Status.{Status}
use Rattle.smol_run.specs.Status.{exit_code_of}

-- the number of the status, and 5 where there was no memory to begin with
abbrev pub exit_code : {E : Type 0} → Result Status E → ℕ
exit_code (Ok status) = exit_code_of status
exit_code (Err fault) = 5
