-- The commands, and the output files that they may name.
use Rattle.std.specs.Prelude.{ℕ, List, [], ◌∷◌, Option, None, Some}
use Rattle.smol_types.specs.declared.command.Command.{Command}
use Rattle.smol_blocks.specs.Blocks.{compartment_names}
use Rattle.smol_cmd.specs.Known.{Known, known}
use Rattle.smol_config.specs.Said.{Said, performs, writes, gathered}
use Rattle.smol_config.specs.Axes.{axes_of}
use Rattle.smol_config.specs.Species.{species_of}
use Rattle.smol_config.specs.Blocks.{blocks_said}

abbrev pub said_outputs : Said → Option (List (List ℕ))
said_outputs (writes more) = Some more
said_outputs other = None

-- the names of the output files that the lines before give, in order
abbrev pub outputs_of : List Said → List (List ℕ)
outputs_of before = gathered said_outputs before

abbrev pub said_command : Said → Option (List Command)
said_command (performs command) = Some (command ∷ [])
said_command other = None

-- the commands that the lines before give, in order
abbrev pub commands_of : List Said → List Command
commands_of before = gathered said_command before

-- what a command may name behind the lines before
abbrev pub known_before : List Said → Known
known_before before = known (axes_of before) (species_of before) (compartment_names (blocks_said before)) (outputs_of before)
