-- What is known of encounters while they are looked for.
use Rattle.std.specs.Prelude.{ℕ, ◌<◌, List, All, Contains}
use Rattle.smol_types.specs.declared.draft.Draft.{Draft}
use Rattle.smol_types.specs.declared.state.Mol.{Mol}
use Rattle.smol_meaning.specs.Encounters.{Encounter, encounters_of_two}
use Rattle.smol_pairs.specs.declared.encounter.Encounter.{Encounter as Ranks}
use Rattle.smol_pairs.specs.Encounters.{ranks_of}
use Rattle.smol_pairs.specs.Seekers.{mol_at}

-- the encounters of the molecules at two ranks
abbrev pub two_at : Draft → ℕ → ℕ → List Mol → ℕ → ℕ → List Encounter
two_at draft seed k mols i j = encounters_of_two draft seed k i (mol_at mols i) j (mol_at mols j) 0 draft.reactions

-- the encounters of two molecules are among those that were found
abbrev pub Has : Draft → ℕ → ℕ → List Mol → List Ranks → ℕ → ℕ → Type 0
Has draft seed k mols found i j = All (λ (e : Encounter). Contains found (ranks_of e)) (two_at draft seed k mols i j)

-- and so they are whichever of the two has the lower rank
pub record HaveMet (draft : Draft) (seed k : ℕ) (mols : List Mol) (found : List Ranks) (i j : ℕ) : Type 0 where
  pub first : i < j → Has draft seed k mols found i j
  pub second : j < i → Has draft seed k mols found j i

-- what was found is kept, and what comes is among all that there is
pub record IsGrown (all old new : List Ranks) : Type 0 where
  pub kept : All (Contains new) old
  pub sound : All (Contains all) old → All (Contains all) new
