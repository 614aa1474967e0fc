-- What the answers of the system come to.
use Rattle.std.specs.Prelude.{ℕ, ◌==◌, Option, None, Some, Result, Ok, Err, if◌then◌else◌}

-- how many of so many bytes were taken: as many as the system says. To take none of some is a fault, as is an error
abbrev pub accepted_of : {E : Type 0} → Result ℕ E → ℕ → Option ℕ
accepted_of (Ok count) length = if count == 0 then (if length == 0 then Some 0 else None) else Some count
accepted_of (Err fault) length = None

-- how many bytes were given: as many as the system says. An error is a fault
abbrev pub received_of : {E : Type 0} → Result ℕ E → Option ℕ
received_of (Ok count) = Some count
received_of (Err fault) = None
