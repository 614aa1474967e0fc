-- Who meets whom in a step: two free molecules of the list, each with its place in it.
use Rattle.std.proofs.Common.{◌≡◌, ℕ, suc, ◌+◌, ◌<◌, Bool, true, false, List, [], ◌∷◌, length, All, Some, slice_get, cond, refl, ap, ◌∙◌, subst, arith}
use Rattle.std.proofs.lemmas.List.Elements.{All-append, All-cons, All-nil}
use Rattle.std.proofs.lemmas.List.Sorted.{All-permutation}
use Rattle.smol_types.specs.declared.draft.Draft.{Draft}
use Rattle.smol_types.specs.declared.reaction.Reaction.{Reaction}
use Rattle.smol_types.specs.declared.state.Mol.{Mol}
use Rattle.smol_meaning.specs.Encounters.{Encounter, encounters_from, encounters_of, encounters_of_two, encounters_with, listed, may_react}
use Rattle.smol_meaning.specs.Events.{is_free}
use Rattle.smol_meaning.specs.Meeting.{IsEncounter}
use Rattle.smol_meaning.proofs.Listing.{listed_moves}

-- the encounter of two molecules at their ranks
abbrev pub encounter : ℕ → Mol → ℕ → Mol → ℕ → Encounter
encounter rank_a a rank_b b reaction = record { a = a; b = b; rank_a = rank_a; rank_b = rank_b; reaction = reaction }

module _ (P : Encounter → Type 0) (draft : Draft) (seed k : ℕ) where
  -- what holds for each reaction holds for all encounters of two molecules
  pub two_all : (rank_a : ℕ) (a : Mol) (rank_b : ℕ) (b : Mol) (number : ℕ) (reactions : List Reaction)
      → ((r : ℕ) → r < number + length reactions → P (encounter rank_a a rank_b b r))
      → All P (encounters_of_two draft seed k rank_a a rank_b b number reactions)
  two_all rank_a a rank_b b number [] each = All-nil P
  two_all rank_a a rank_b b number (reaction ∷ reactions) each =
      let e = encounter rank_a a rank_b b number in
      let more = two_all rank_a a rank_b b (number + 1) reactions (λ r within. each r (omega arith)) in
      first (may_react draft seed k reaction e) (each number (omega arith)) more
    where
      first : (here : Bool) → P (encounter rank_a a rank_b b number) → All P (encounters_of_two draft seed k rank_a a rank_b b (number + 1) reactions)
          → All P (cond here (encounter rank_a a rank_b b number ∷ encounters_of_two draft seed k rank_a a rank_b b (number + 1) reactions)
          (encounters_of_two draft seed k rank_a a rank_b b (number + 1) reactions))
      first true this more = All-cons P _ _ this more
      first false this more = more

  -- what holds for each free molecule behind holds for all encounters with them
  pub with_all : (rank_a : ℕ) (a : Mol) (rank_b : ℕ) (mols : List Mol)
      → ((i r : ℕ) (b : Mol) → slice_get mols i ≡ Some b → is_free draft seed k b ≡ true → r < length draft.reactions → P (encounter rank_a a (rank_b + i) b r))
      → All P (encounters_with draft seed k rank_a a rank_b mols)
  with_all rank_a a rank_b [] each = All-nil P
  with_all rank_a a rank_b (b ∷ mols) each =
      All-append P _ _ (first (is_free draft seed k b) refl)
      (with_all rank_a a (rank_b + 1) mols (λ i r c is free within. subst (λ n. P (encounter rank_a a n c r)) (omega arith) (each (suc i) r c is free within)))
    where
      first : (here : Bool) → is_free draft seed k b ≡ here → All P (cond here (encounters_of_two draft seed k rank_a a rank_b b 0 draft.reactions) [])
      first true free =
          two_all rank_a a rank_b b 0 draft.reactions
          (λ r within. subst (λ n. P (encounter rank_a a n b r)) (omega arith) (each 0 r b refl free (omega arith)))
      first false free = All-nil P

  -- what holds for each two free molecules holds for all encounters
  pub from_all : (rank : ℕ) (mols : List Mol)
      → ((i j r : ℕ) (a b : Mol) → slice_get mols i ≡ Some a → slice_get mols j ≡ Some b → i < j → is_free draft seed k a ≡ true → is_free draft seed k b ≡ true
      → r < length draft.reactions → P (encounter (rank + i) a (rank + j) b r))
      → All P (encounters_from draft seed k rank mols)
  from_all rank [] each = All-nil P
  from_all rank (a ∷ mols) each =
      All-append P _ _ (first (is_free draft seed k a) refl)
      (from_all (rank + 1) mols (λ i j r b c is_b is_c less free_b free_c within.
      let at_b : rank + suc i ≡ (rank + 1) + i = omega arith in
      let at_c : rank + suc j ≡ (rank + 1) + j = omega arith in
      subst (λ n. P (encounter n b ((rank + 1) + j) c r)) at_b
      (subst (λ n. P (encounter (rank + suc i) b n c r)) at_c (each (suc i) (suc j) r b c is_b is_c (omega arith) free_b free_c within))))
    where
      first : (here : Bool) → is_free draft seed k a ≡ here → All P (cond here (encounters_with draft seed k rank a (rank + 1) mols) [])
      first true free =
          with_all rank a (rank + 1) mols
          (λ i r b is free_b within.
          let at_a : rank + 0 ≡ rank = omega arith in
          let at_b : rank + suc i ≡ (rank + 1) + i = omega arith in
          subst (λ n. P (encounter n a ((rank + 1) + i) b r)) at_a
          (subst (λ n. P (encounter (rank + 0) a n b r)) at_b (each 0 (suc i) r a b refl is (omega arith) free free_b within)))
      first false free = All-nil P

-- each encounter of a step is one of two free molecules
pub encounters_are : (draft : Draft) (seed k : ℕ) (mols : List Mol) → All (IsEncounter draft seed k mols) (encounters_of draft seed k mols)
unfolding encounters_of
encounters_are draft seed k mols =
    let serial = encounters_from draft seed k 0 mols in
    All-permutation (IsEncounter draft seed k mols) serial (listed draft.nearest serial) (listed_moves draft.nearest serial)
    (from_all (IsEncounter draft seed k mols) draft seed k 0 mols (λ i j r a b is_a is_b less free_a free_b within.
    let at_a : 0 + i ≡ i = omega arith in
    let at_b : 0 + j ≡ j = omega arith in
    record {
      first = ap (slice_get mols) at_a ∙ is_a;
      second = ap (slice_get mols) at_b ∙ is_b;
      apart = omega arith;
      first_free = free_a;
      second_free = free_b;
      reaction = within;
    }))
