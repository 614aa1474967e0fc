-- Molecules that stand where a run may have brought them, and the moves that they make.
use Rattle.std.specs.Prelude.{◌≡◌, ℕ, ◌<◌, length}
use Rattle.smol_geom.specs.declared.place.Place.{Place}
use Rattle.smol_types.specs.declared.draft.Draft.{Draft}
use Rattle.smol_types.specs.declared.state.Mol.{Mol}
use Rattle.smol_types.specs.Coordinates.{AreCoordinates}
use Rattle.smol_meaning.specs.Motion.{Move}
use Rattle.smol_meaning.specs.Moves.{IsMove}

-- a place that is odd and within this size on the axes in use, and 1 on the others
pub record StandsWithin (dims most : ℕ) (place : Place) : Type 0 where
  pub axes : length place.0 ≡ 3
  pub coordinates : AreCoordinates most dims place.0

-- a molecule of a species that there is, at such a place
pub record IsPlaced (draft : Draft) (most : ℕ) (mol : Mol) : Type 0 where
  pub species : mol.species < length draft.species
  pub place : StandsWithin draft.dims most mol.place

-- a move of a molecule of a species that there is
pub record IsMoveOf (draft : Draft) (move : Move) : Type 0 where
  pub species : move.species < length draft.species
  pub goes : IsMove draft.dims move.from move.by
