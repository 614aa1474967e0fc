-- The motion of molecules in a step: each goes the way of its displacement through panels and walls.
use Rattle.std.specs.Prelude.{ℕ, List, Option, None, Some, slice_get}
use Rattle.std.specs.List.{filter_map}
use Rattle.std.specs.Option.{option_map_or}
use Rattle.smol_geom.specs.declared.place.Place.{Place}
use Rattle.smol_geom.specs.declared.place.Step3.{Step3}
use Rattle.smol_streams.specs.Displacement.{displacement}
use Rattle.smol_types.specs.declared.draft.Draft.{Draft}
use Rattle.smol_types.specs.declared.species.Species.{Species}
use Rattle.smol_types.specs.declared.state.Mol.{Mol}
use Rattle.smol_meaning.specs.declared.way.Travelled.{Travelled}
use Rattle.smol_meaning.specs.declared.way.Travelled.TheVariants.{At, Absorbed}
use Rattle.smol_meaning.specs.Seen.{way}

-- a way of a run: the species of the molecule as it sets out, where it begins, and its displacement
pub record Move : Type 0 where
  pub species : ℕ
  pub from : Place
  pub by : Step3

-- where the way of a move ends
abbrev pub end_of_move : Draft → Move → Travelled
end_of_move draft move = way draft move.species move.from move.by

-- the difstep of a species
abbrev pub difstep_of : Draft → ℕ → ℕ
difstep_of draft number = option_map_or (λ (species : Species). species.step) (slice_get draft.species number) 0

-- the move that a molecule makes in step k, which is drawn with the difstep of its species
abbrev pub diffusion : Draft → ℕ → ℕ → Mol → Move
diffusion draft seed k mol = record {
  species = mol.species;
  from = mol.place;
  by = displacement seed mol.serial k (difstep_of draft mol.species) draft.dims;
}

-- the molecule at the end of its way, where it wasn't absorbed: it has the species with which its way ends
abbrev pub arrived : Mol → Travelled → Option Mol
arrived mol (At place species) = Some (record mol { species = species; place = place })
arrived mol (Absorbed number) = None

-- a molecule after the motion of step k
abbrev pub diffused : Draft → ℕ → ℕ → Mol → Option Mol
diffused draft seed k mol = arrived mol (end_of_move draft (diffusion draft seed k mol))

-- what is left of molecules after the motion of step k
abbrev pub all_diffused : Draft → ℕ → ℕ → List Mol → List Mol
all_diffused draft seed k mols = filter_map (diffused draft seed k) mols
