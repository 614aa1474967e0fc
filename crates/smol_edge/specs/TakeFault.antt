-- Why the bytes of a source were not taken.
use Rattle.std.specs.Prelude.{Result, Ok, Err}
use Rattle.smol_edge.specs.declared.take_fault.TakeFault.{TakeFault}
use Rattle.smol_edge.specs.declared.take_fault.TakeFault.TheVariants.{ReadFault, TooLong, OutOfMemory}

-- a fact for each answer but that a read failed
abbrev pub UnlessReadFault : {T : Type 0} → Result T TakeFault → Type 0 → Type 0
UnlessReadFault (Ok value) P = P
UnlessReadFault (Err ReadFault) P = Unit {0}
UnlessReadFault (Err TooLong) P = P
UnlessReadFault (Err OutOfMemory) P = P
