-- Molecules that look for others.
use Rattle.std.specs.Prelude.{◌≡◌, ℕ, ◌<◌, true, List, [], Contains, is_some, length, map, slice_index_or}
use Rattle.smol_geom.specs.declared.place.Place.{Place}
use Rattle.smol_types.specs.declared.draft.Draft.{Draft}
use Rattle.smol_types.specs.declared.state.Mol.{Mol}
use Rattle.smol_meaning.specs.Events.{is_free}
use Rattle.smol_pairs.specs.Reach.{reach_of}
use Rattle.smol_pairs.specs.declared.seeker.Seeker.{Seeker}

-- no molecule: what is read past the end of a list
abbrev pub nobody : Mol
nobody = record { serial = 0; species = 0; place = record { 0 = [] } }

-- the molecule at a rank
abbrev pub mol_at : List Mol → ℕ → Mol
mol_at mols rank = slice_index_or mols rank nobody

-- no seeker, in the same way
abbrev pub no_seeker : Seeker
no_seeker = record { place = record { 0 = [] }; rank = 0 }

-- the seeker at an index
abbrev pub seeker_at : List Seeker → ℕ → Seeker
seeker_at seekers index = slice_index_or seekers index no_seeker

abbrev pub place_of : Seeker → Place
place_of seeker = seeker.place

abbrev pub rank_of : Seeker → ℕ
rank_of seeker = seeker.rank

-- a molecule that made no reaction alone, by its rank, and its place
pub record IsSeeker (draft : Draft) (seed k : ℕ) (mols : List Mol) (seeker : Seeker) : Type 0 where
  pub rank : seeker.rank < length mols
  pub place : seeker.place ≡ (mol_at mols seeker.rank).place
  pub free : is_free draft seed k (mol_at mols seeker.rank) ≡ true

-- each of the first so many molecules is one of the seekers, if it made no reaction alone and reaches others
abbrev pub AreCovered : Draft → ℕ → ℕ → List Mol → ℕ → List Seeker → Type 0
AreCovered draft seed k mols count seekers = (i : ℕ) → i < count → is_free draft seed k (mol_at mols i) ≡ true
    → is_some (reach_of (mol_at mols i).species draft.reactions) ≡ true → Contains (map rank_of seekers) i
