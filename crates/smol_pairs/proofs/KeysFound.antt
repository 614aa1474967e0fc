-- What was found, in order, is all encounters of a step.
use Rattle.std.proofs.Common.{◌≡◌, ℕ, ◌+◌, ◌/◌, ◌%◌, ◌<◌, ◌≤◌, Bool, true, false, List, [], ◌∷◌, length, get_or, map, All, refl, sym, ap, ◌∙◌, arith}
use Rattle.std.specs.Prelude.{if◌then◌else◌, Contains}
use Rattle.std.specs.List.Sorted.{IsStrictlyIncreasing}
use Rattle.std.proofs.lemmas.List.Elements.{All-nil, All-cons, All-head, All-tail, All-map, All-weaker, All-contains}
use Rattle.smol_types.specs.declared.draft.Draft.{Draft}
use Rattle.smol_types.specs.declared.reaction.Reaction.{Reaction}
use Rattle.smol_types.specs.declared.state.Mol.{Mol}
use Rattle.smol_meaning.specs.Encounters.{Encounter, encounters_of, encounters_of_two, may_react}
use Rattle.smol_meaning.specs.Events.{is_free}
use Rattle.smol_pairs.specs.declared.encounter.Encounter.{Encounter as Ranks}
use Rattle.smol_pairs.specs.Encounters.{ranks_of}
use Rattle.smol_pairs.specs.Keys.{IsOfKey, key_of, ranks_at}
use Rattle.smol_pairs.specs.Listing.{key_in, number_at, square_at}
use Rattle.smol_pairs.proofs.Members.{contains_map}
use Rattle.smol_pairs.proofs.RisingLists.{same_rising, rises_increasing}
use Rattle.smol_pairs.proofs.ListingOrder.{IsShort, keys_in_rise}
use Rattle.smol_pairs.proofs.KeyMembers.{each_encounter, two}

-- the encounter of its own number
pub back_at : (e : Ranks) → IsOfKey e → ranks_at (key_of e) ≡ e
back_at e is =
    let a : key_of e / 1073741824 ≡ e.rank_a = omega (arith, is.b, is.reaction) in
    let b : key_of e / 1024 % 1048576 ≡ e.rank_b = omega (arith, is.b, is.reaction) in
    let reaction : key_of e % 1024 ≡ e.reaction = omega (arith, is.reaction) in
    λ i. record { rank_a = a i; rank_b = b i; reaction = reaction i }

-- and the number of its own encounter
pub numbers_back : (numbers : List ℕ) → map key_of (map ranks_at numbers) ≡ numbers
numbers_back [] = refl
numbers_back (number ∷ numbers) =
    let here : key_of (ranks_at number) ≡ number = omega arith in
    let rest = numbers_back numbers in
    λ i. here i ∷ rest i

-- the encounter of a key: the last 50 bits are its number
abbrev ranks_in : ℕ → Ranks
ranks_in key = ranks_at (key % 1125899906842624)

back_in : (nearest : Bool) (mols : List Mol) (e : Ranks) → IsOfKey e → ranks_in (key_in nearest mols e) ≡ e
back_in false mols e is =
    let same : key_of e % 1125899906842624 ≡ key_of e = omega (arith, is.a, is.b, is.reaction) in
    ap ranks_at same ∙ back_at e is
back_in true mols e is =
    let same : number_at (square_at mols e) e % 1125899906842624 ≡ key_of e = omega (arith, is.a, is.b, is.reaction) in
    ap ranks_at same ∙ back_at e is

keys_back : (nearest : Bool) (mols : List Mol) (es : List Ranks) → All IsOfKey es → map ranks_in (map (key_in nearest mols) es) ≡ es
keys_back nearest mols [] are = refl
keys_back nearest mols (e ∷ es) are =
    let here = back_in nearest mols e (All-head IsOfKey e es are) in
    let rest = keys_back nearest mols es (All-tail IsOfKey e es are) in
    λ i. here i ∷ rest i

-- members of a list are, mapped, members of the mapped list
pub mapped_members : {X Y : Type 0} → (f : X → Y) (xs ys : List X) → All (Contains ys) xs → All (Contains (map f ys)) (map f xs)
mapped_members f xs ys are = All-map (Contains (map f ys)) f xs
    (All-weaker (Contains ys) (λ x. Contains (map f ys) (f x)) (λ x has. contains_map f ys x has) xs are)

module _ (draft : Draft) (seed k : ℕ) (none : Mol) where
  each_of_two : (P : Encounter → Type 0) (rank_a : ℕ) (a : Mol) (rank_b : ℕ) (b : Mol) (number : ℕ) (reactions : List Reaction)
      → ((r : ℕ) → r < number + length reactions → P (record { a = a; b = b; rank_a = rank_a; rank_b = rank_b; reaction = r }))
      → All P (encounters_of_two draft seed k rank_a a rank_b b number reactions)
  each_of_two P rank_a a rank_b b number [] of = All-nil P
  each_of_two P rank_a a rank_b b number (reaction ∷ reactions) of =
      let e : Encounter = record { a = a; b = b; rank_a = rank_a; rank_b = rank_b; reaction = number } in
      choose (may_react draft seed k reaction e) e (encounters_of_two draft seed k rank_a a rank_b b (number + 1) reactions) (of number (omega arith))
      (each_of_two P rank_a a rank_b b (number + 1) reactions (λ r within. of r (omega arith)))
    where
      choose : (here : Bool) (e : Encounter) (rest : List Encounter) → P e → All P rest → All P (if here then e ∷ rest else rest)
      choose true e rest first others = All-cons P e rest first others
      choose false e rest first others = others

  -- an encounter's ranks and reaction have room in a number
  pub all_of_key : (mols : List Mol) → length mols ≤ 1048576 → length draft.reactions ≤ 1024
      → All IsOfKey (map ranks_of (encounters_of draft seed k mols))
  all_of_key mols few_mols few =
      All-map IsOfKey ranks_of (encounters_of draft seed k mols)
      (each_encounter draft seed k none (λ e. IsOfKey (ranks_of e)) mols
      (λ i j less within free_a free_b. each_of_two (λ e. IsOfKey (ranks_of e)) i (get_or mols i none) j (get_or mols j none) 0 draft.reactions
      (λ r is. record { a = omega arith; b = omega arith; reaction = omega arith })))

  all_short : (mols : List Mol) → length mols ≤ 1048576 → length draft.reactions ≤ 1024 → All IsShort (encounters_of draft seed k mols)
  all_short mols few_mols few =
      each_encounter draft seed k none IsShort mols
      (λ i j less within free_a free_b. each_of_two IsShort i (get_or mols i none) j (get_or mols j none) 0 draft.reactions
      (λ r is. omega arith))

  -- what is in order and has the encounters of each two free molecules, and no others, is all encounters in order
  pub all_found : (mols : List Mol) (found : List Ranks) → length mols ≤ 1048576 → length draft.reactions ≤ 1024
      → IsStrictlyIncreasing (map (key_in draft.nearest mols) found)
      → All (Contains (map ranks_of (encounters_of draft seed k mols))) found
      → ((i j : ℕ) → i < j → j < length mols → is_free draft seed k (get_or mols i none) ≡ true → is_free draft seed k (get_or mols j none) ≡ true
      → All (λ (e : Encounter). Contains found (ranks_of e)) (two draft seed k none i (get_or mols i none) j (get_or mols j none)))
      → found ≡ map ranks_of (encounters_of draft seed k mols)
  all_found mols found few_mols few up sound complete =
      let all = map ranks_of (encounters_of draft seed k mols) in
      let key = key_in draft.nearest mols in
      let rises = rises_increasing 0 (map key found) (λ j d within. omega arith) up in
      let has : All (Contains found) all = All-map (Contains found) ranks_of (encounters_of draft seed k mols)
      (each_encounter draft seed k none (λ e. Contains found (ranks_of e)) mols complete) in
      let known : All IsOfKey all = all_of_key mols few_mols few in
      let rise = keys_in_rise draft seed k mols few few_mols (all_short mols few_mols few) in
      let keys : map key found ≡ map key all =
      same_rising 0 rises.0 0 rise.0 (map key found) (map key all) rises.1 rise.1
      (mapped_members key found all sound) (mapped_members key all found has) in
      sym (keys_back draft.nearest mols found (All-weaker (Contains all) IsOfKey (λ e is. All-contains IsOfKey all e known is) found sound))
      ∙ ap (map ranks_in) keys
      ∙ keys_back draft.nearest mols all known
