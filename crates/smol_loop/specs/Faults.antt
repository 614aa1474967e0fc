-- How the fault of a part of a run is told as one of the run. None of these takes memory, and want of memory is told of nothing else.
use Rattle.std.specs.Prelude.{ℕ}
use Rattle.smol_compart.specs.declared.place_fault.PlaceFault.{PlaceFault}
use Rattle.smol_compart.specs.declared.place_fault.PlaceFault.TheVariants as place
use Rattle.smol_step.specs.declared.step_fault.StepFault.{StepFault}
use Rattle.smol_step.specs.declared.step_fault.StepFault.TheVariants as step
use Rattle.smol_commands.specs.declared.command_fault.CommandFault.{CommandFault}
use Rattle.smol_commands.specs.declared.command_fault.CommandFault.TheVariants as command
use Rattle.smol_loop.specs.declared.run_fault.RunFault.{RunFault}
use Rattle.smol_loop.specs.declared.run_fault.RunFault.TheVariants as fault

-- of a command at the state of a step
abbrev pub fault_of_command : CommandFault → ℕ → RunFault
fault_of_command command.TooManyMolecules k = fault.TooManyMolecules k
fault_of_command command.OutOfMemory k = fault.OutOfMemory

-- of a step, by its number
abbrev pub fault_of_step : StepFault → ℕ → RunFault
fault_of_step (step.TooManyMolecules found) k = fault.TooManyMolecules k
fault_of_step step.OutOfMemory k = fault.OutOfMemory

-- of the placing of molecules
abbrev pub fault_of_placing : PlaceFault → RunFault
fault_of_placing (place.NoPlace line serial) = fault.NoPlace line serial
fault_of_placing place.OutOfMemory = fault.OutOfMemory
