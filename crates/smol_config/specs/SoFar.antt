-- What holds of what the lines so far say, where none of them has a fault. This is no part of what a text means.
use Rattle.std.specs.Prelude.{◌+◌, ◌<◌, ◌≤◌, pos, ◌<ℤ◌, List, length, All, IfSome, unsigned_abs}
use Rattle.smol_types.specs.Limits.{most_species, most_molecules, most_commands, most_outputs, latest}
use Rattle.smol_types.specs.Placings.{IsPlacing}
use Rattle.smol_types.specs.Commands.{IsCommand}
use Rattle.smol_line.specs.Axes.{AreAxes, AreSettled, walls_of}
use Rattle.smol_blocks.specs.BlocksSound.{AreBlocks}
use Rattle.smol_reactions.specs.Sound.{AreReactions}
use Rattle.smol_config.specs.declared.times.Times.{Times}
use Rattle.smol_config.specs.Said.{Said}
use Rattle.smol_config.specs.Axes.{axes_of, dims_of}
use Rattle.smol_config.specs.Species.{species_of}
use Rattle.smol_config.specs.Times.{times_of}
use Rattle.smol_config.specs.MaxMol.{max_mol_of}
use Rattle.smol_config.specs.Mol.{placings_of}
use Rattle.smol_config.specs.Reactions.{reactions_said}
use Rattle.smol_config.specs.Blocks.{blocks_said, compartment_count}
use Rattle.smol_config.specs.Commands.{commands_of, outputs_of}

-- times in their range, and a step that takes some
pub record AreTimes (times : Times) : Type 0 where
  pub start : IfSome times.start (λ time. unsigned_abs time ≤ latest)
  pub stop : IfSome times.stop (λ time. unsigned_abs time ≤ latest)
  pub step : IfSome times.step (λ time. (unsigned_abs time ≤ latest) × (pos 0 <ℤ time))

-- the matters of which something holds
pub data Matter : Type 0 where
  the_axes : Matter
  the_species : Matter
  the_times : Matter
  the_limit : Matter
  the_order : Matter
  the_placings : Matter
  the_reactions : Matter
  the_blocks : Matter
  the_outputs : Matter
  the_command_count : Matter
  the_commands : Matter

-- what holds of a matter; what stands between walls is said behind them
abbrev pub Stands : Matter → List Said → Type 0
Stands the_axes before = AreAxes (axes_of before)
Stands the_species before = length (species_of before) ≤ most_species
Stands the_times before = AreTimes (times_of before)
Stands the_limit before = IfSome (max_mol_of before) (λ count. (1 ≤ count) × (count ≤ most_molecules))
Stands the_order before = 0 < length (placings_of before) + length (commands_of before) → AreSettled (axes_of before)
Stands the_placings before =
    All (IsPlacing (length (species_of before)) (compartment_count before) (walls_of (axes_of before))) (placings_of before)
Stands the_reactions before = AreReactions (dims_of before) (length (species_of before)) (reactions_said before)
Stands the_blocks before = AreBlocks (dims_of before) (length (species_of before)) (blocks_said before)
Stands the_outputs before = length (outputs_of before) ≤ most_outputs
Stands the_command_count before = length (commands_of before) ≤ most_commands
Stands the_commands before =
    All (IsCommand (length (species_of before)) (compartment_count before) (length (outputs_of before))
    (walls_of (axes_of before))) (commands_of before)

-- it holds of each matter. A line keeps it by what it says of the matters that it touches
abbrev pub IsSoFar : List Said → Type 0
IsSoFar before = (matter : Matter) → Stands matter before
