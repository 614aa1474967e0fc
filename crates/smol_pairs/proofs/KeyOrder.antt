-- The keys of encounters rise.
use Rattle.std.proofs.Common.{ℕ, ◌+◌, ◌≤◌, Bool, true, false, List, [], ◌∷◌, ◌++◌, length, map, sym, subst, arith}
use Rattle.std.specs.Prelude.{if◌then◌else◌}
use Rattle.std.proofs.lemmas.List.{map-append}
use Rattle.smol_types.specs.declared.draft.Draft.{Draft}
use Rattle.smol_types.specs.declared.reaction.Reaction.{Reaction}
use Rattle.smol_types.specs.declared.state.Mol.{Mol}
use Rattle.smol_meaning.specs.Encounters.{Encounter, encounters_from, encounters_with, encounters_of_two, may_react}
use Rattle.smol_meaning.specs.Events.{is_free}
use Rattle.smol_pairs.specs.Rising.{Rises}
use Rattle.smol_pairs.specs.Encounters.{ranks_of}
use Rattle.smol_pairs.specs.Keys.{key_at, key_of}
use Rattle.smol_pairs.proofs.RisingLists.{rises_within, rises_append}

-- the number of an encounter
abbrev pub number_of : Encounter → ℕ
number_of e = key_of (ranks_of e)

-- one encounter more, or not
key_choice : (here : Bool) (e : Encounter) (rest : List Encounter) (later : ℕ) → Rises (number_of e + 1) later (map number_of rest)
    → Rises (number_of e) later (map number_of (if here then e ∷ rest else rest))
key_choice true e rest later up = (omega arith, up)
key_choice false e rest later up = rises_within (number_of e + 1) (number_of e) later later (map number_of rest) (omega arith) (omega arith) up

-- encounters or none, and others after them
keys_joined : (taken : Bool) (low middle next : ℕ) (here there : List Encounter) → low ≤ middle → Rises low middle (map number_of here)
    → Rises middle next (map number_of there) → Rises low next (map number_of ((if taken then here else []) ++ there))
keys_joined true low middle next here there within first second =
    subst (Rises low next) (sym (map-append number_of here there)) (rises_append low middle next (map number_of here) (map number_of there) first second)
keys_joined false low middle next here there within first second = rises_within middle low next next (map number_of there) within (omega arith) second

module _ (draft : Draft) (seed k : ℕ) where
  two_rise : (rank_a : ℕ) (a : Mol) (rank_b : ℕ) (b : Mol) (number : ℕ) (reactions : List Reaction)
      → Rises (key_at rank_a rank_b number) (key_at rank_a rank_b (number + length reactions)) (map number_of (encounters_of_two draft seed k rank_a a rank_b b number reactions))
  two_rise rank_a a rank_b b number [] = omega arith
  two_rise rank_a a rank_b b number (reaction ∷ reactions) =
      let e : Encounter = record { a = a; b = b; rank_a = rank_a; rank_b = rank_b; reaction = number } in
      let rest = encounters_of_two draft seed k rank_a a rank_b b (number + 1) reactions in
      key_choice (may_react draft seed k reaction e) e rest (key_at rank_a rank_b (number + length (reaction ∷ reactions)))
      (rises_within (key_at rank_a rank_b (number + 1)) (key_at rank_a rank_b number + 1) (key_at rank_a rank_b (number + 1 + length reactions))
      (key_at rank_a rank_b (number + length (reaction ∷ reactions))) (map number_of rest) (omega arith) (omega arith)
      (two_rise rank_a a rank_b b (number + 1) reactions))

  module _ (few : length draft.reactions ≤ 1024) where
    with_rise : (rank_a : ℕ) (a : Mol) (rank : ℕ) (mols : List Mol)
        → Rises (key_at rank_a rank 0) (key_at rank_a (rank + length mols) 0) (map number_of (encounters_with draft seed k rank_a a rank mols))
    with_rise rank_a a rank [] = omega arith
    with_rise rank_a a rank (b ∷ mols) =
        let here = encounters_of_two draft seed k rank_a a rank b 0 draft.reactions in
        let there = encounters_with draft seed k rank_a a (rank + 1) mols in
        keys_joined (is_free draft seed k b) (key_at rank_a rank 0) (key_at rank_a (rank + 1) 0) (key_at rank_a (rank + length (b ∷ mols)) 0) here there (omega arith)
        (rises_within (key_at rank_a rank 0) (key_at rank_a rank 0) (key_at rank_a rank (0 + length draft.reactions)) (key_at rank_a (rank + 1) 0) (map number_of here)
        (omega arith) (omega arith) (two_rise rank_a a rank b 0 draft.reactions))
        (rises_within (key_at rank_a (rank + 1) 0) (key_at rank_a (rank + 1) 0) (key_at rank_a (rank + 1 + length mols) 0) (key_at rank_a (rank + length (b ∷ mols)) 0)
        (map number_of there) (omega arith) (omega arith) (with_rise rank_a a (rank + 1) mols))

    from_rise : (rank : ℕ) (mols : List Mol) → rank + length mols ≤ 1048576
        → Rises (key_at rank 0 0) (key_at (rank + length mols) 0 0) (map number_of (encounters_from draft seed k rank mols))
    from_rise rank [] few_mols = omega arith
    from_rise rank (a ∷ mols) few_mols =
        let here = encounters_with draft seed k rank a (rank + 1) mols in
        let there = encounters_from draft seed k (rank + 1) mols in
        keys_joined (is_free draft seed k a) (key_at rank 0 0) (key_at (rank + 1) 0 0) (key_at (rank + length (a ∷ mols)) 0 0) here there (omega arith)
        (rises_within (key_at rank (rank + 1) 0) (key_at rank 0 0) (key_at rank (rank + 1 + length mols) 0) (key_at (rank + 1) 0 0) (map number_of here)
        (omega arith) (omega arith) (with_rise rank a (rank + 1) mols))
        (rises_within (key_at (rank + 1) 0 0) (key_at (rank + 1) 0 0) (key_at (rank + 1 + length mols) 0 0) (key_at (rank + length (a ∷ mols)) 0 0)
        (map number_of there) (omega arith) (omega arith) (from_rise (rank + 1) mols (omega arith)))

    -- the keys of all encounters rise, where they are listed by the serials
    pub keys_rise : (mols : List Mol) → length mols ≤ 1048576 → Rises 0 (key_at (length mols) 0 0) (map number_of (encounters_from draft seed k 0 mols))
    keys_rise mols few_mols = rises_within (key_at 0 0 0) 0 (key_at (0 + length mols) 0 0) (key_at (length mols) 0 0)
        (map number_of (encounters_from draft seed k 0 mols)) (omega arith) (omega arith) (from_rise 0 mols (omega arith))
