-- A fault of a text, and how it is told.
use Rattle.std.specs.Prelude.{◌≡◌, ℕ, Result, Ok, Err}
use Rattle.smol_types.specs.declared.fault.Kind.{Kind}
use Rattle.smol_types.specs.declared.fault.ConfigFault.{ConfigFault}
use Rattle.smol_types.specs.declared.fault.ConfigFault.TheVariants.{At, OutOfMemory}

-- a fault is of a line, where 0 stands for the whole, and of a kind
pub record Fault : Type 0 where
  pub line : ℕ
  pub kind : Kind

-- a fault of the line of this number
abbrev pub fault_at : ℕ → Kind → Fault
fault_at line kind = record { line = line; kind = kind }

-- the same value, with its fault at this line
abbrev pub at_line : {T : Type 0} → ℕ → Result T Kind → Result T Fault
at_line line (Ok value) = Ok value
at_line line (Err kind) = Err (fault_at line kind)

-- a fault that is told is the outcome, and want of memory tells nothing
abbrev pub TellsFault : {T : Type 0} → ConfigFault → Result T Fault → Type 0
TellsFault (At line kind) outcome = outcome ≡ Err (fault_at line kind)
TellsFault OutOfMemory outcome = Unit {0}
