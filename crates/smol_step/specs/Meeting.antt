-- Encounters of a step by the ranks of their molecules.
use Rattle.std.specs.Prelude.{◌≡◌, ℕ, List}
use Rattle.smol_types.specs.declared.draft.Draft.{Draft}
use Rattle.smol_types.specs.declared.state.Mol.{Mol}
use Rattle.smol_meaning.specs.Encounters.{Encounter}
use Rattle.smol_meaning.specs.Meeting.{IsEncounter}
use Rattle.smol_pairs.specs.declared.encounter.Encounter.{Encounter as Ranks}
use Rattle.smol_pairs.specs.Encounters.{ranks_of}

-- an encounter of two molecules of the list, which have these ranks
pub record IsAt (draft : Draft) (seed k : ℕ) (mols : List Mol) (ranks : Ranks) (e : Encounter) : Type 0 where
  pub met : IsEncounter draft seed k mols e
  pub is : ranks_of e ≡ ranks
