-- What a fault of placement says.
use Rattle.std.specs.Prelude.{◌≡◌, Result, Err}
use Rattle.smol_compart.specs.declared.place_fault.PlaceFault.{PlaceFault}
use Rattle.smol_compart.specs.declared.place_fault.PlaceFault.TheVariants as fault
use Rattle.smol_meaning.specs.Placement as placement

-- a molecule without a place is told exactly where it is the first one. Memory may run out at any time
abbrev pub IsFaultOf : {A : Type 0} → Result A placement.NoPlace → PlaceFault → Type 0
IsFaultOf placed (fault.NoPlace line serial) = placed ≡ Err (record { line = line; serial = serial })
IsFaultOf placed fault.OutOfMemory = Unit {0}
