-- What the lines of a configuration say together, a quantity each.
use Rattle.std.specs.Prelude.{ℕ, ◌+◌, ℤ, pos, List, [], ◌∷◌, Option, unwrap_or, unsigned_abs}
use Rattle.smol_types.specs.declared.draft.Draft.{Draft}
use Rattle.smol_types.specs.declared.species.Species.{Species as TheSpecies}
use Rattle.smol_line.specs.Axes.{walls_of}
use Rattle.smol_blocks.specs.Blocks.{compartments_of, panels_of, surfaces_of}
use Rattle.smol_reactions.specs.Content.{reactions_of}
use Rattle.smol_reactions.specs.Rates.{all_rated}
use Rattle.smol_config.specs.declared.whole.Needed.{Needed}
use Rattle.smol_config.specs.Said.{Said}
use Rattle.smol_config.specs.Axes.{axes_of}
use Rattle.smol_config.specs.Species.{species_of}
use Rattle.smol_config.specs.Motion.{motion_of, difstep_of}
use Rattle.smol_config.specs.Times.{time_start_of}
use Rattle.smol_config.specs.MaxMol.{max_mol_of, limit_of}
use Rattle.smol_config.specs.RandomSeed.{random_seed_of}
use Rattle.smol_config.specs.PairOrder.{nearest_by, pair_order_of}
use Rattle.smol_config.specs.Mol.{placings_of}
use Rattle.smol_config.specs.Reactions.{reactions_said}
use Rattle.smol_config.specs.Blocks.{blocks_said}
use Rattle.smol_config.specs.Commands.{commands_of, outputs_of}

-- species of these names, from this number on, each with its difstep where a step takes this time
abbrev pub species_from : ℤ → List Said → ℕ → List (List ℕ) → List TheSpecies
species_from time before number [] = []
species_from time before number (name ∷ names) =
    record { name = name; step = difstep_of time (motion_of number before) } ∷ species_from time before (number + 1) names

-- the start, which is 0 where no line gives it
abbrev pub started : Option ℤ → ℤ
started given = unwrap_or given (pos 0)

-- all together, where this is given of what it can't do without
unfoldable pub content_of : Needed → List Said → Draft
content_of needed before = record {
  dims = needed.dims;
  species = species_from needed.step before 0 (species_of before);
  walls = walls_of (axes_of before);
  surfaces = surfaces_of (blocks_said before);
  panels = panels_of (blocks_said before);
  compartments = compartments_of (blocks_said before);
  reactions = all_rated (unsigned_abs needed.step) (reactions_of (reactions_said before));
  placings = placings_of before;
  commands = commands_of before;
  outputs = outputs_of before;
  start = started (time_start_of before);
  stop = needed.stop;
  step = needed.step;
  max_mol = limit_of (max_mol_of before);
  seed = random_seed_of before;
  nearest = nearest_by (pair_order_of before);
}
