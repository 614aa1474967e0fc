-- Seekers that have all met have all encounters.
use Rattle.std.proofs.Common.{◌≡◌, ℕ, ◌<◌, ◌≢◌, true, List, length, get_or, map, Option, None, Some, refl, sym, subst, arith}
use Rattle.std.specs.Prelude.{Contains, is_some}
use Rattle.std.proofs.lemmas.List.{get_or-map, length-map}
use Rattle.smol_types.specs.declared.draft.Draft.{Draft}
use Rattle.smol_types.specs.declared.state.Mol.{Mol}
use Rattle.smol_meaning.specs.Events.{is_free}
use Rattle.smol_pairs.specs.declared.encounter.Encounter.{Encounter as Ranks}
use Rattle.smol_pairs.specs.declared.seeker.Seeker.{Seeker}
use Rattle.smol_pairs.specs.Met.{Has, HaveMet}
use Rattle.smol_pairs.specs.Reach.{reach_of}
use Rattle.smol_pairs.specs.Seekers.{mol_at, no_seeker, rank_of, seeker_at}
use Rattle.smol_pairs.proofs.MetLemmas.{met_turned, no_first, no_second}
use Rattle.smol_pairs.proofs.PlacesMet.{each_two_met}

module _ (draft : Draft) (seed k : ℕ) (mols : List Mol) where
  -- where each two places have met, each two seekers have their encounters
  pub each_two_has : (seekers : List Seeker) (found : List Ranks)
      → ((p q : ℕ) → p < q → q < length seekers → HaveMet draft seed k mols found (seeker_at seekers p).rank (seeker_at seekers q).rank)
      → (i j : ℕ) → i < j → Contains (map rank_of seekers) i → Contains (map rank_of seekers) j → Has draft seed k mols found i j
  each_two_has seekers found met i j less has_i has_j =
      let other : i ≢ j = λ e. omega (arith, e, less) in
      (each_two_met (HaveMet draft seed k mols found) (map rank_of seekers) (met_turned draft seed k mols found) at_ranks i j other has_i has_j).first less
    where
      at_ranks : (p q : ℕ) → p < q → q < length (map rank_of seekers)
          → HaveMet draft seed k mols found (get_or (map rank_of seekers) p 0) (get_or (map rank_of seekers) q 0)
      at_ranks p q behind inside =
          let q_in : q < length seekers = simp length-map at inside in
          subst (λ (i : ℕ). HaveMet draft seed k mols found i (get_or (map rank_of seekers) q 0))
          (sym (get_or-map rank_of seekers p no_seeker 0 (omega (arith, behind, q_in))))
          (subst (λ (j : ℕ). HaveMet draft seed k mols found (seeker_at seekers p).rank j) (sym (get_or-map rank_of seekers q no_seeker 0 q_in))
          (met p q behind q_in))

  -- a species reaches others, or nobody
  reach_there : (reach : Option ℕ) (P : Type 0) → (reach ≡ None → P) → (is_some reach ≡ true → P) → P
  reach_there None P none some = none refl
  reach_there (Some reach) P none some = some refl

  -- where each free molecule that reaches others is a seeker, and each two seekers have their encounters, all have
  pub all_have : (seekers : List Seeker) (found : List Ranks)
      → ((i : ℕ) → i < length mols → is_free draft seed k (mol_at mols i) ≡ true → is_some (reach_of (mol_at mols i).species draft.reactions) ≡ true
      → Contains (map rank_of seekers) i)
      → ((i j : ℕ) → i < j → Contains (map rank_of seekers) i → Contains (map rank_of seekers) j → Has draft seed k mols found i j)
      → (i j : ℕ) → i < j → j < length mols → is_free draft seed k (mol_at mols i) ≡ true → is_free draft seed k (mol_at mols j) ≡ true
      → Has draft seed k mols found i j
  all_have seekers found covered has i j less within free_i free_j =
      reach_there (reach_of (mol_at mols i).species draft.reactions) (Has draft seed k mols found i j)
      (λ none. no_first draft seed k mols found i j none)
      (λ some_i. reach_there (reach_of (mol_at mols j).species draft.reactions) (Has draft seed k mols found i j)
      (λ none. no_second draft seed k mols found i j none)
      (λ some_j. has i j less (covered i (omega (arith, less, within)) free_i some_i) (covered j within free_j some_j)))
