-- What holds of every configuration.
use Rattle.std.specs.Prelude.{◌≡◌, ℕ, ◌*◌, ◌<◌, ◌≤◌, pos, ◌<ℤ◌, length, All, sum_by, unsigned_abs}
use Rattle.smol_types.specs.declared.draft.Draft.{Draft}
use Rattle.smol_types.specs.declared.species.Species.{Species}
use Rattle.smol_types.specs.Limits.{most_species, most_surfaces, most_panels, most_compartments, most_reactions, most_commands, most_outputs, most_molecules, most_steps, longest, latest, certain}
use Rattle.smol_types.specs.Steps.{last_step}
use Rattle.smol_types.specs.Walls.{AreWalls}
use Rattle.smol_types.specs.Surfaces.{IsSurface}
use Rattle.smol_types.specs.Panels.{IsPanel}
use Rattle.smol_types.specs.Compartments.{IsCompartment}
use Rattle.smol_types.specs.Reactions.{IsReaction, share_of}
use Rattle.smol_types.specs.Placings.{IsPlacing, placed_by}
use Rattle.smol_types.specs.Commands.{IsCommand}

pub record IsSound (draft : Draft) : Type 0 where
  pub dims_above : 0 < draft.dims
  pub dims_below : draft.dims ≤ 3
  pub species : length draft.species ≤ most_species
  pub difsteps : All (λ (species : Species). species.step ≤ longest) draft.species
  pub walls : AreWalls 0 draft.walls
  pub wall_count : length draft.walls ≡ 2 * draft.dims
  pub surface_count : length draft.surfaces ≤ most_surfaces
  pub surfaces : All (IsSurface (length draft.species)) draft.surfaces
  pub panel_count : length draft.panels ≤ most_panels
  pub panels : All (IsPanel draft.dims (length draft.surfaces) draft.panels) draft.panels
  pub compartment_count : length draft.compartments ≤ most_compartments
  pub compartments : All (IsCompartment draft.dims (length draft.surfaces)) draft.compartments
  pub reaction_count : length draft.reactions ≤ most_reactions
  pub reactions : All (IsReaction draft.dims (length draft.species)) draft.reactions
  -- the first-order reactions of a species share the random words among them
  pub shares : (species : ℕ) → species < length draft.species → sum_by (share_of species) draft.reactions ≤ certain
  pub placings : All (IsPlacing (length draft.species) (length draft.compartments) draft.walls) draft.placings
  pub command_count : length draft.commands ≤ most_commands
  pub commands : All (IsCommand (length draft.species) (length draft.compartments) (length draft.outputs) draft.walls) draft.commands
  pub output_count : length draft.outputs ≤ most_outputs
  pub start : unsigned_abs draft.start ≤ latest
  pub stop : unsigned_abs draft.stop ≤ latest
  pub step : unsigned_abs draft.step ≤ latest
  pub step_above : pos 0 <ℤ draft.step
  pub steps : last_step draft.start draft.stop draft.step ≤ most_steps
  pub max_above : 0 < draft.max_mol
  pub max_below : draft.max_mol ≤ most_molecules
  pub placed : sum_by placed_by draft.placings ≤ draft.max_mol
