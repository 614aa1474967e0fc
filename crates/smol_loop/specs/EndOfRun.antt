-- What becomes of the run of a seed, whoever reads what it prints.
use Rattle.std.specs.Prelude.{ℕ, List, Option, None, Some, Result, Ok, Err}
use Rattle.smol_types.specs.declared.draft.Draft.{Draft}
use Rattle.smol_types.specs.declared.state.State.{State}
use Rattle.smol_meaning.specs.Lines.{counts_from}
use Rattle.smol_meaning.specs.Placement.{NoPlace}
use Rattle.smol_meaning.specs.Run.{run_of}
use Rattle.smol_meaning.specs.Stretch.{Ending, GoesOn, Stopped, Over, Stretch}
use Rattle.smol_sweep.specs.declared.outcome.Outcome.{Outcome}
use Rattle.smol_sweep.specs.declared.outcome.Outcome.TheVariants as outcome
use Rattle.smol_loop.specs.declared.run_fault.RunFault.{RunFault}
use Rattle.smol_loop.specs.declared.run_fault.RunFault.TheVariants as fault

-- how many molecules there are of each species in a state
abbrev pub counts_in : Draft → State → List ℕ
counts_in draft state = counts_from state.mols 0 draft.species

-- a run that isn't over came to its end in its last state
abbrev pub end_in : Draft → State → Ending → Outcome
end_in draft last GoesOn = outcome.Ended (counts_in draft last)
end_in draft last Stopped = outcome.Ended (counts_in draft last)
end_in draft last (Over step) = outcome.Over

-- what becomes of a run. One that has no opening state doesn't begin, since a molecule finds no place
abbrev pub end_by : Draft → Result Stretch NoPlace → Outcome
end_by draft (Ok stretch) = end_in draft stretch.last stretch.ending
end_by draft (Err none) = outcome.NoPlace

-- what becomes of the run of a seed
abbrev pub end_of_run : Draft → ℕ → Outcome
end_of_run draft seed = end_by draft (run_of draft seed)

-- the end that a fault of a run tells. What cut a run off tells none
abbrev pub end_by_fault : RunFault → Option Outcome
end_by_fault (fault.NoPlace line serial) = Some outcome.NoPlace
end_by_fault (fault.TooManyMolecules step) = Some outcome.Over
end_by_fault fault.OutputFault = None
end_by_fault fault.OutOfMemory = None
