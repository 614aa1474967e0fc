-- The encounters of a step, and the pairs that they make.
use Rattle.std.proofs.Common.{◌≡◌, ℕ, ◌+◌, ◌<◌, ◌≤◌, Bool, true, false, List, [], ◌∷◌, ◌++◌, length, map, All, Option, None, refl, sym, ap, subst, ◌∙◌, arith}
use Rattle.std.specs.Prelude.{if◌then◌else◌, filter, Contains}
use Rattle.std.proofs.lemmas.List.{map-append}
use Rattle.std.specs.Option.{option_map_or}
use Rattle.std.proofs.lemmas.Option.{slice_get_within}
use Rattle.std.proofs.lemmas.List.Elements.{All-nil, All-cons, All-append, All-head, All-map, All-tail, All-weaker, Contains-append_left, Contains-append_right, Contains-push}
use Rattle.std.proofs.lemmas.List.Sorted.{All-permutation, IsPermutation-map}
use Rattle.smol_types.specs.declared.draft.Draft.{Draft}
use Rattle.smol_types.specs.declared.reaction.Reaction.{Reaction}
use Rattle.smol_types.specs.declared.state.Mol.{Mol}
use Rattle.smol_types.specs.State.{Ascend}
use Rattle.smol_plan.specs.declared.pair.Pair.{Pair}
use Rattle.smol_plan.specs.Pair.{IsOrdered}
use Rattle.smol_meaning.specs.Encounters.{Encounter, candidates_of, encounters_from, encounters_of, encounters_of_two, encounters_with, listed, may_react, pair_of}
use Rattle.smol_meaning.specs.Events.{is_free}
use Rattle.smol_meaning.specs.Meeting.{IsEncounter}
use Rattle.smol_meaning.proofs.Listing.{listed_moves}
use Rattle.smol_meaning.proofs.Meeting.{encounters_are}
use Rattle.smol_pairs.specs.Encounters.{AreRanksIn, pair_at, ranks_of}
use Rattle.smol_pairs.specs.Moved.{IsAmong, free_serials}
use Rattle.smol_pairs.specs.Reach.{longest_of, reach_of, reaches_of}
use Rattle.smol_pairs.proofs.Reaching.{IsBeyond, beyond_first, no_reach, not_by, not_by_second}

module _ (draft : Draft) (seed k : ℕ) where
  -- molecules that are beyond the reach of the first have no encounter
  pub none_of_two : (rank_a : ℕ) (a : Mol) (rank_b : ℕ) (b : Mol) (number : ℕ) (reactions : List Reaction)
      → IsBeyond (reach_of a.species reactions) a.place b.place
      → encounters_of_two draft seed k rank_a a rank_b b number reactions ≡ []
  none_of_two rank_a a rank_b b number [] out = refl
  none_of_two rank_a a rank_b b number (reaction ∷ reactions) out =
      let parts = beyond_first a.species reaction reactions a.place b.place out in
      let e : Encounter = record { a = a; b = b; rank_a = rank_a; rank_b = rank_b; reaction = number } in
      let rest = encounters_of_two draft seed k rank_a a rank_b b (number + 1) reactions in
      let never : may_react draft seed k reaction e ≡ false = not_by a.species b.species reaction a.place b.place _ parts.0 in
      ap (λ (here : Bool). if here then e ∷ rest else rest) never
      ∙ none_of_two rank_a a rank_b b (number + 1) reactions parts.1

  -- nor beyond that of the second
  pub none_of_second : (rank_a : ℕ) (a : Mol) (rank_b : ℕ) (b : Mol) (number : ℕ) (reactions : List Reaction)
      → IsBeyond (reach_of b.species reactions) a.place b.place
      → encounters_of_two draft seed k rank_a a rank_b b number reactions ≡ []
  none_of_second rank_a a rank_b b number [] out = refl
  none_of_second rank_a a rank_b b number (reaction ∷ reactions) out =
      let parts = beyond_first b.species reaction reactions a.place b.place out in
      let e : Encounter = record { a = a; b = b; rank_a = rank_a; rank_b = rank_b; reaction = number } in
      let rest = encounters_of_two draft seed k rank_a a rank_b b (number + 1) reactions in
      let never : may_react draft seed k reaction e ≡ false = not_by_second a.species b.species reaction a.place b.place _ parts.0 in
      ap (λ (here : Bool). if here then e ∷ rest else rest) never
      ∙ none_of_second rank_a a rank_b b (number + 1) reactions parts.1

  left_out : (taken : Bool) (here there : List Encounter) → here ≡ [] → there ≡ [] → (if taken then here else []) ++ there ≡ []
  left_out true here there none rest = (λ i. none i ++ rest i)
  left_out false here there none rest = rest

  -- without a reach it meets nobody
  pub none_with : (rank_a : ℕ) (a : Mol) (rank : ℕ) (mols : List Mol) → reach_of a.species draft.reactions ≡ None
      → encounters_with draft seed k rank_a a rank mols ≡ []
  none_with rank_a a rank [] none = refl
  none_with rank_a a rank (b ∷ mols) none =
      let out = subst (λ (reach : Option ℕ). IsBeyond reach a.place b.place) (sym none) tt in
      left_out (is_free draft seed k b) _ _ (none_of_two rank_a a rank b 0 draft.reactions out) (none_with rank_a a (rank + 1) mols none)

  -- nor does anybody where no species reaches others
  none_from : (rank : ℕ) (mols : List Mol) → All (λ (mol : Mol). mol.species < length draft.species) mols → longest_of (reaches_of draft) ≡ None
      → encounters_from draft seed k rank mols ≡ []
  none_from rank [] are none = refl
  none_from rank (a ∷ mols) are none =
      let There = λ (mol : Mol). mol.species < length draft.species in
      left_out (is_free draft seed k a) _ _ (none_with rank a (rank + 1) mols (no_reach draft a.species (All-head There a mols are) none))
      (none_from (rank + 1) mols (All-tail There a mols are) none)

  none_listed : (nearest : Bool) → listed nearest [] ≡ []
  none_listed false = refl
  none_listed true = refl

  pub no_encounters : (mols : List Mol) → All (λ (mol : Mol). mol.species < length draft.species) mols → longest_of (reaches_of draft) ≡ None
      → encounters_of draft seed k mols ≡ []
  unfolding encounters_of
  no_encounters mols are none = ap (listed draft.nearest) (none_from 0 mols are none) ∙ none_listed draft.nearest

  module _ (P : Pair → Type 0) where
    all_taken : (taken : Bool) (encounters : List Encounter) → (taken ≡ true → All P (map pair_of encounters))
        → All P (map pair_of (if taken then encounters else []))
    all_taken true encounters each = each refl
    all_taken false encounters each = All-nil P

    all_both : (xs ys : List Encounter) → All P (map pair_of xs) → All P (map pair_of ys) → All P (map pair_of (xs ++ ys))
    all_both xs ys front back = subst (All P) (sym (map-append pair_of xs ys)) (All-append P (map pair_of xs) (map pair_of ys) front back)

    -- what holds of two molecules whatever the reaction
    abbrev OfTwo : Mol → Mol → Type 0
    OfTwo a b = (reaction : ℕ) → P (record { a = a.serial; b = b.serial; reaction = reaction })

    each_of_two : (rank_a : ℕ) (a : Mol) (rank_b : ℕ) (b : Mol) (number : ℕ) (reactions : List Reaction) → OfTwo a b
        → All P (map pair_of (encounters_of_two draft seed k rank_a a rank_b b number reactions))
    each_of_two rank_a a rank_b b number [] of = All-nil P
    each_of_two rank_a a rank_b b number (reaction ∷ reactions) of =
        let e : Encounter = record { a = a; b = b; rank_a = rank_a; rank_b = rank_b; reaction = number } in
        let rest = each_of_two rank_a a rank_b b (number + 1) reactions of in
        choose (may_react draft seed k reaction e) e (encounters_of_two draft seed k rank_a a rank_b b (number + 1) reactions) (of number) rest
      where
        choose : (here : Bool) (e : Encounter) (rest : List Encounter) → P (pair_of e) → All P (map pair_of rest)
            → All P (map pair_of (if here then e ∷ rest else rest))
        choose true e rest first others = All-cons P (pair_of e) (map pair_of rest) first others
        choose false e rest first others = others

    -- and of a molecule and those that it may meet
    abbrev WithFree : Mol → Mol → Type 0
    WithFree a b = is_free draft seed k b ≡ true → OfTwo a b

    each_with : (rank_a : ℕ) (a : Mol) (rank : ℕ) (mols : List Mol) → All (WithFree a) mols
        → All P (map pair_of (encounters_with draft seed k rank_a a rank mols))
    each_with rank_a a rank [] of = All-nil P
    each_with rank_a a rank (b ∷ mols) of =
        all_both _ (encounters_with draft seed k rank_a a (rank + 1) mols)
        (all_taken (is_free draft seed k b) (encounters_of_two draft seed k rank_a a rank b 0 draft.reactions)
        (λ free. each_of_two rank_a a rank b 0 draft.reactions (All-head (WithFree a) b mols of free)))
        (each_with rank_a a (rank + 1) mols (All-tail (WithFree a) b mols of))

    -- and of each two that may meet
    abbrev OfEachTwo : List Mol → Type 0
    OfEachTwo [] = Unit {0}
    OfEachTwo (a ∷ mols) = (is_free draft seed k a ≡ true → All (WithFree a) mols) × OfEachTwo mols

    each_from : (rank : ℕ) (mols : List Mol) → OfEachTwo mols → All P (map pair_of (encounters_from draft seed k rank mols))
    each_from rank [] of = All-nil P
    each_from rank (a ∷ mols) of =
        all_both _ (encounters_from draft seed k (rank + 1) mols)
        (all_taken (is_free draft seed k a) (encounters_with draft seed k rank a (rank + 1) mols) (λ free. each_with rank a (rank + 1) mols (of.0 free)))
        (each_from (rank + 1) mols of.1)

    -- the order in which they are listed changes nothing
    each_listed : (mols : List Mol) → OfEachTwo mols → All P (candidates_of draft seed k mols)
    unfolding encounters_of
    each_listed mols of =
        let serial = encounters_from draft seed k 0 mols in
        let all = listed draft.nearest serial in
        All-permutation P (map pair_of serial) (map pair_of all) (IsPermutation-map pair_of serial all (listed_moves draft.nearest serial))
        (each_from 0 mols of)

  ascend_above : (low next : ℕ) (mols : List Mol) → Ascend low next mols → All (λ (mol : Mol). low ≤ mol.serial) mols
  ascend_above low next [] up = All-nil (λ (mol : Mol). low ≤ mol.serial)
  ascend_above low next (mol ∷ mols) up =
      All-cons (λ (mol : Mol). low ≤ mol.serial) mol mols up.0
      (All-weaker (λ (other : Mol). mol.serial + 1 ≤ other.serial) (λ (other : Mol). low ≤ other.serial) (λ other above. omega (arith, up.0, above)) mols
      (ascend_above (mol.serial + 1) next mols up.1))

  each_ordered : (low next : ℕ) (mols : List Mol) → Ascend low next mols → OfEachTwo (λ (pair : Pair). pair.a < pair.b) mols
  each_ordered low next [] up = tt
  each_ordered low next (a ∷ mols) up = (
    λ free. All-weaker (λ (b : Mol). a.serial + 1 ≤ b.serial) (WithFree (λ (pair : Pair). pair.a < pair.b) a)
        (λ b above free reaction. omega (arith, above)) mols (ascend_above (a.serial + 1) next mols up.1),
    each_ordered (a.serial + 1) next mols up.1,
  )

  -- the lower serial comes first
  pub candidates_ordered : (low next : ℕ) (mols : List Mol) → Ascend low next mols → IsOrdered (candidates_of draft seed k mols)
  candidates_ordered low next mols up = each_listed (λ (pair : Pair). pair.a < pair.b) mols (each_ordered low next mols up)

  -- a molecule that made no reaction alone has one of the serials of those
  abbrev HasFree : List ℕ → Mol → Type 0
  HasFree serials mol = is_free draft seed k mol ≡ true → Contains serials mol.serial

  more_serials : (mol : Mol) (taken : Bool) (mols : List Mol) (serial : ℕ) → Contains (map (λ (mol : Mol). mol.serial) mols) serial
      → Contains (map (λ (mol : Mol). mol.serial) (if taken then mol ∷ mols else mols)) serial
  more_serials mol true mols serial has = Contains-append_right (mol.serial ∷ []) (map (λ (mol : Mol). mol.serial) mols) serial has
  more_serials mol false mols serial has = has

  first_serial : (mol : Mol) (taken : Bool) (mols : List Mol) → taken ≡ true
      → Contains (map (λ (mol : Mol). mol.serial) (if taken then mol ∷ mols else mols)) mol.serial
  first_serial mol true mols is = Contains-append_left (mol.serial ∷ []) (map (λ (mol : Mol). mol.serial) mols) mol.serial (Contains-push [] mol.serial)
  first_serial mol false mols is = absurd (cc)

  each_free : (mols : List Mol) → All (HasFree (free_serials draft seed k mols)) mols
  each_free [] = All-nil (HasFree [])
  each_free (mol ∷ mols) =
      let taken = is_free draft seed k mol in
      let serials = free_serials draft seed k (mol ∷ mols) in
      All-cons (HasFree serials) mol mols (first_serial mol taken (filter (is_free draft seed k) mols))
      (All-weaker (HasFree (free_serials draft seed k mols)) (HasFree serials)
      (λ other has free. more_serials mol taken (filter (is_free draft seed k) mols) other.serial (has free)) mols (each_free mols))

  each_among : (all mols : List Mol) → All (HasFree (free_serials draft seed k all)) mols → OfEachTwo (IsAmong draft seed k all) mols
  each_among all [] has = tt
  each_among all (a ∷ mols) has =
      let H = HasFree (free_serials draft seed k all) in (
        λ free. All-weaker H (WithFree (IsAmong draft seed k all) a)
            (λ b has_b free_b reaction. record { a = All-head H a mols has free; b = has_b free_b }) mols (All-tail H a mols has),
        each_among all mols (All-tail H a mols has),
      )

  -- both molecules of a candidate made no reaction alone
  pub candidates_among : (mols : List Mol) → All (IsAmong draft seed k mols) (candidates_of draft seed k mols)
  candidates_among mols = each_listed (IsAmong draft seed k mols) mols (each_among mols mols (each_free mols))

  -- the ranks of encounters are those of molecules of the list, the lower one first
  ranks_are : (e : Encounter) (mols : List Mol) → IsEncounter draft seed k mols e → AreRanksIn mols (ranks_of e)
  ranks_are e mols is = record { apart = is.apart; within = slice_get_within mols e.rank_b e.b is.second }

  pub all_ranks : (mols : List Mol) → All (AreRanksIn mols) (map ranks_of (encounters_of draft seed k mols))
  all_ranks mols =
      let encounters = encounters_of draft seed k mols in
      All-map (AreRanksIn mols) ranks_of encounters
      (All-weaker (IsEncounter draft seed k mols) (λ (e : Encounter). AreRanksIn mols (ranks_of e)) (λ e is. ranks_are e mols is) encounters
      (encounters_are draft seed k mols))

  -- and the serials at the ranks are those of the molecules
  pair_there : (e : Encounter) (mols : List Mol) → IsEncounter draft seed k mols e → pair_at mols (ranks_of e) ≡ pair_of e
  pair_there e mols is =
      let serial = λ (mol : Option Mol). option_map_or (λ (mol : Mol). mol.serial) mol 0 in
      λ i. record { a = serial (is.first i); b = serial (is.second i); reaction = e.reaction }

  pairs_there : (mols : List Mol) (es : List Encounter) → All (IsEncounter draft seed k mols) es
      → map (pair_at mols) (map ranks_of es) ≡ map pair_of es
  pairs_there mols [] are = refl
  pairs_there mols (e ∷ es) are =
      let here = pair_there e mols (All-head (IsEncounter draft seed k mols) e es are) in
      let rest = pairs_there mols es (All-tail (IsEncounter draft seed k mols) e es are) in
      λ i. here i ∷ rest i

  pub pairs_at : (mols : List Mol) → map (pair_at mols) (map ranks_of (encounters_of draft seed k mols)) ≡ candidates_of draft seed k mols
  pairs_at mols = pairs_there mols (encounters_of draft seed k mols) (encounters_are draft seed k mols)
