-- What a line says, and looking back over what the lines before it say. These stand nearest first.
use Rattle.std.specs.Prelude.{ℕ, ℤ, Bool, List, [], ◌∷◌, ◌++◌, Option, None, Some}
use Rattle.smol_types.specs.declared.placing.Placing.{Placing}
use Rattle.smol_types.specs.declared.command.Command.{Command}
use Rattle.smol_line.specs.declared.axes.Bounds.{Bounds}
use Rattle.smol_line.specs.declared.species_word.Chosen.{Chosen}
use Rattle.smol_reactions.specs.ReactionSaid.{ReactionSaid}
use Rattle.smol_blocks.specs.Blocks.{BlockSaid}
use Rattle.smol_config.specs.declared.motion.Motion.{Motion}

-- the run starts, and stops, at this time, and a step takes this time
pub data TimeSaid : Type 0 where
  starts : ℤ → TimeSaid
  stops : ℤ → TimeSaid
  steps : ℤ → TimeSaid

pub data Said : Type 0 where
  -- nothing, as the line is passed over
  passed_over : Said
  -- so many axes are in use
  axes : ℕ → Said
  -- these are the names of further species
  names : List (List ℕ) → Said
  -- the species chosen move so
  moves : Chosen → Motion → Said
  -- this of the times of a run
  of_times : TimeSaid → Said
  -- there may be so many molecules
  limits : ℕ → Said
  -- this is the seed of the random words
  seeds : ℕ → Said
  -- whether the nearest pairs come first
  orders : Bool → Said
  -- the axis has these walls
  walls : ℕ → Bounds → Said
  -- these molecules are placed
  places : Placing → Said
  -- this of a reaction
  of_reactions : ReactionSaid → Said
  -- this of a block
  of_blocks : BlockSaid → Said
  -- these are the names of further output files
  writes : List (List ℕ) → Said
  -- this command is performed
  performs : Command → Said

-- further things behind a list of them
abbrev pub followed : {T : Type 0} → List T → Option (List T) → List T
followed things None = things
followed things (Some more) = things ++ more

-- what the lines before say of the matter, in their order
abbrev pub gathered : {T : Type 0} → (Said → Option (List T)) → List Said → List T
gathered matter [] = []
gathered matter (said ∷ before) = followed (gathered matter before) (matter said)
