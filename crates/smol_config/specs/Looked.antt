-- What the lines before say of plain matters, a look-up each.
use Rattle.std.specs.Prelude.{ℕ, Bool, List, Option}
use Rattle.smol_types.specs.declared.command.Command.{Command}
use Rattle.smol_types.specs.declared.placing.Placing.{Placing}
use Rattle.smol_line.specs.declared.axes.Axes.{Axes}
use Rattle.smol_config.specs.declared.motion.Motion.{Motion}
use Rattle.smol_config.specs.declared.times.Times.{Times}
use Rattle.smol_config.specs.Said.{Said}
use Rattle.smol_config.specs.Axes.{axes_of}
use Rattle.smol_config.specs.Species.{species_of}
use Rattle.smol_config.specs.Motion.{motion_of}
use Rattle.smol_config.specs.Times.{times_of}
use Rattle.smol_config.specs.MaxMol.{max_mol_of}
use Rattle.smol_config.specs.RandomSeed.{random_seed_of}
use Rattle.smol_config.specs.PairOrder.{pair_order_of}
use Rattle.smol_config.specs.Mol.{placings_of}
use Rattle.smol_config.specs.Commands.{commands_of, outputs_of}

-- a value for each matter; motions are by the number of the species
pub record Looked : Type 0 where
  pub axes : Axes
  pub species : List (List ℕ)
  pub motions : ℕ → Motion
  pub times : Times
  pub max_mol : Option ℕ
  pub seed : Option ℕ
  pub nearest : Option Bool
  pub placings : List Placing
  pub outputs : List (List ℕ)
  pub commands : List Command

-- what the lines before say of each
abbrev pub looked_up : List Said → Looked
looked_up before = record {
  axes = axes_of before;
  species = species_of before;
  motions = λ number. motion_of number before;
  times = times_of before;
  max_mol = max_mol_of before;
  seed = random_seed_of before;
  nearest = pair_order_of before;
  placings = placings_of before;
  outputs = outputs_of before;
  commands = commands_of before;
}
