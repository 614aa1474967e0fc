-- How a reader tells a refusal. This is no part of what a text means.
use Rattle.std.specs.Prelude.{ℕ}
use Rattle.smol_types.specs.declared.fault.ConfigFault.{ConfigFault}
use Rattle.smol_types.specs.declared.fault.ConfigFault.TheVariants as fault
use Rattle.smol_line.specs.declared.refusal.Refusal.{Refusal}
use Rattle.smol_line.specs.declared.refusal.Refusal.TheVariants.{At, OutOfMemory}

-- why a line of this number isn't taken
abbrev pub told_at : ℕ → Refusal → ConfigFault
told_at line (At kind) = fault.At line kind
told_at line OutOfMemory = fault.OutOfMemory
