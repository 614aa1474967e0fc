-- What the command of a number does in a phase of a run.
use Rattle.std.specs.Prelude.{ℕ, if◌then◌else◌, slice_get}
use Rattle.std.specs.Option.{option_map_or}
use Rattle.smol_types.specs.declared.draft.Draft.{Draft}
use Rattle.smol_types.specs.declared.command.Command.{Command}
use Rattle.smol_types.specs.declared.command.Phase.{Phase}
use Rattle.smol_types.specs.declared.state.State.{State}
use Rattle.smol_meaning.specs.Commands.{performed}
use Rattle.smol_meaning.specs.Stretch.{Stretch, idle}
use Rattle.smol_meaning.specs.Timing.{is_due}

-- the command is performed where it is due
abbrev pub performed_if_due : Draft → ℕ → Phase → ℕ → State → Command → Stretch
performed_if_due draft seed phase c state command =
    if is_due draft phase command.«when» then performed draft seed c state command else idle state

-- what the command of this number does in a phase
abbrev pub due_at : Draft → ℕ → Phase → ℕ → State → Stretch
due_at draft seed phase c state = option_map_or (performed_if_due draft seed phase c state) (slice_get draft.commands c) (idle state)
