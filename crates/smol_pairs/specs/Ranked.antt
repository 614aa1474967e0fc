-- Molecules with their ranks in the list after motion.
use Rattle.std.specs.Prelude.{ℕ, ◌^◌, ◌<◌, length}
use Rattle.smol_types.specs.declared.draft.Draft.{Draft}
use Rattle.smol_meaning.specs.Encounters.{Encounter}
use Rattle.smol_meaning.specs.Sighted.{IsPlaceWithin}
use Rattle.smol_pairs.specs.declared.ranked.Ranked.{Ranked}

-- a molecule of a species that there is, at a place that it may have come to, and one of few
pub record IsRanked (draft : Draft) (ranked : Ranked) : Type 0 where
  pub rank : ranked.rank < 2 ^ 20
  pub species : ranked.mol.species < length draft.species
  pub place : IsPlaceWithin (2 ^ 57) ranked.mol.place

-- the encounter of two molecules by the reaction of this number
abbrev pub encounter_of : Ranked → Ranked → ℕ → Encounter
encounter_of a b number = record { a = a.mol; b = b.mol; rank_a = a.rank; rank_b = b.rank; reaction = number }
