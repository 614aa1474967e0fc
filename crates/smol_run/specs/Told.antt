-- How a call that doesn't come to its end is told: by a status and a line of its own, or as cut off.
use Rattle.std.specs.Prelude.{ℕ, List, Result, Ok, Err}
use Rattle.smol_loop.specs.declared.run_fault.RunFault.{RunFault}
use Rattle.smol_loop.specs.declared.run_fault.RunFault.TheVariants as fault
use Rattle.smol_run.specs.declared.ended.Ended.{Ended}
use Rattle.smol_run.specs.declared.ended.Ended.TheVariants.{NoPlace, TooMany}
use Rattle.smol_run.specs.declared.loss.Loss.{Loss}
use Rattle.smol_run.specs.declared.loss.Loss.TheVariants as loss
use Rattle.smol_run.specs.declared.refusal.Refusal.{Refusal}
use Rattle.smol_run.specs.declared.status.Status.{Status}
use Rattle.smol_run.specs.declared.status.Status.TheVariants as status
use Rattle.smol_run.specs.declared.stop.Stop.{Stop}
use Rattle.smol_run.specs.declared.stop.Stop.TheVariants as stop
use Rattle.smol_types.specs.declared.fault.ConfigFault.{ConfigFault}
use Rattle.smol_types.specs.declared.fault.ConfigFault.TheVariants as config
use Rattle.smol_types.specs.declared.fault.Kind.{Kind}
use Rattle.smol_macro.specs.declared.expand_fault.ExpandFault.{ExpandFault}
use Rattle.smol_macro.specs.declared.expand_fault.ExpandFault.TheVariants as expand
use Rattle.smol_macro.specs.declared.expand_fault.MacroKind.{MacroKind}
use Rattle.smol_run.specs.Outcome.{no_place_line, over_line}

-- a molecule without a place and too many molecules end a run. A failing write and want of memory cut it off
abbrev pub ended_by : RunFault → Result Ended Loss
ended_by (fault.NoPlace line serial) = Ok (NoPlace line serial)
ended_by (fault.TooManyMolecules step) = Ok (TooMany step)
ended_by fault.OutputFault = Err loss.Output
ended_by fault.OutOfMemory = Err loss.Memory

-- the status of such an end
abbrev pub status_of_end : Ended → Status
status_of_end (NoPlace line serial) = status.Refused
status_of_end (TooMany step) = status.Over

-- and its line
abbrev pub line_of_end : Ended → List ℕ
line_of_end (NoPlace line serial) = no_place_line line serial
line_of_end (TooMany step) = over_line step

-- a text whose content is refused is told by its line and its kind. Want of memory cuts the call off
abbrev pub refusal_of : ConfigFault → Result (Refusal Kind) Loss
refusal_of (config.At line kind) = Ok (record { line = line; kind = kind })
refusal_of config.OutOfMemory = Err loss.Memory

-- files that give no text are told so, too. A failing read and want of memory stop the call
abbrev pub refusal_of_files : ExpandFault → Result (Refusal MacroKind) Stop
refusal_of_files (expand.At line kind) = Ok (record { line = line; kind = kind })
refusal_of_files expand.ReadFault = Err stop.Input
refusal_of_files expand.OutOfMemory = Err stop.Memory

-- the status of an answer: a status is its own, and each thing that stops a call has one
abbrev pub status_told : Result Status Stop → Status
status_told (Ok status) = status
status_told (Err stop.Input) = status.Input
status_told (Err stop.Output) = status.Output
status_told (Err stop.Memory) = status.Memory
