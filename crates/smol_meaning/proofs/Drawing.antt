-- A molecule makes the reaction alone whose words hold its word.
use Rattle.std.proofs.Common.{⊎_elim, ◌≡◌, ℕ, zero, suc, ◌+◌, ◌<◌, ◌≤◌, true, List, [], ◌∷◌, length, take, sum_by, Option, None, Some, refl, sym, ap, subst, ◌∙◌, arith}
use Rattle.std.specs.Prelude.{◌↔◌, is_none, nat_lt}
use Rattle.std.proofs.lemmas.Bool.{cases_Bool, cond-false, cond-true, le-ltb, lt-ltb, ltb-false, ltb-true}
use Rattle.std.proofs.lemmas.List.Sums.{sum_by-cons}
use Rattle.smol_types.specs.declared.draft.Draft.{Draft}
use Rattle.smol_types.specs.declared.reaction.Reaction.{Reaction}
use Rattle.smol_types.specs.declared.state.Mol.{Mol}
use Rattle.smol_types.specs.Reactions.{share_of}
use Rattle.smol_streams.specs.Chance.{first_order_word}
use Rattle.smol_meaning.specs.Events.{is_free, lone_reaction, reaction_drawn}
use Rattle.smol_meaning.specs.Who.{DrawsAlone, DrawsNone}

module _ (species word : ℕ) where
  -- the words of the first reactions of a list
  abbrev words : List Reaction → ℕ → ℕ
  words reactions count = sum_by (share_of species) (take count reactions)

  words_more : (reaction : Reaction) (reactions : List Reaction) (i : ℕ) → words (reaction ∷ reactions)
      (i + 1) ≡ share_of species reaction + words reactions i
  words_more reaction reactions i =
      let next : i + 1 ≡ suc i = omega arith in
      ap (words (reaction ∷ reactions)) next ∙ sum_by-cons (share_of species) reaction (take i reactions)

  words_suc : (reaction : Reaction) (reactions : List Reaction) (i : ℕ) → words (reaction ∷ reactions)
      (suc i) ≡ share_of species reaction + words reactions i
  words_suc reaction reactions i = sum_by-cons (share_of species) reaction (take i reactions)

  -- where those before have so many words, the word is one of those of the reaction at this place
  record Holds (passed : ℕ) (reactions : List Reaction) (i : ℕ) : Type 0 where
    there : i < length reactions
    from : passed + words reactions i ≤ word
    below : word < passed + words reactions (i + 1)

  drawn_holds : (passed number : ℕ) (reactions : List Reaction) (r : ℕ) → passed ≤ word
      → reaction_drawn species passed number reactions word ≡ Some r
      → (i : ℕ) × (r ≡ number + i) × Holds passed reactions i
  drawn_holds passed number [] r over is = absurd (cc)
  drawn_holds passed number (reaction ∷ reactions) r over is =
      ⊎_elim here
      (λ e.
      later (drawn_holds (passed + share_of species reaction) (number + 1) reactions r
      (ltb-false word (passed + share_of species reaction) e)
      (sym (cond-false (nat_lt word (passed + share_of species reaction)) _ _ e) ∙ is)))
      (cases_Bool (nat_lt word (passed + share_of species reaction)))
    where
      here : nat_lt word (passed + share_of species reaction) ≡ true → (i : ℕ) × (r ≡ number + i) × Holds passed (reaction ∷ reactions) i
      here e =
          let same : number ≡ r = let s : Some number ≡ Some r = sym (cond-true (nat_lt word (passed + share_of species reaction)) _ _ e)
          ∙ is in cc in
          let less = ltb-true word (passed + share_of species reaction) e in
          let none : words (reaction ∷ reactions) 0 ≡ 0 = refl in (
            0,
            omega (arith, same),
            record {
              there = omega arith;
              from = omega (arith, over, none);
              below = omega
                  (arith, less, words_more reaction reactions 0);
            },
          )

      later : (i : ℕ) × (r ≡ (number + 1) + i) × Holds (passed + share_of species reaction) reactions i → (i : ℕ) × (r ≡ number + i)
          × Holds passed (reaction ∷ reactions) i
      later rest =
          let first = words_suc reaction reactions rest.0 in
          let next = words_more reaction reactions (suc rest.0) in
          let next_is : suc rest.0 ≡ rest.0 + 1 = omega arith in
          let inner : words reactions (suc rest.0) ≡ words reactions (rest.0 + 1) = ap (words reactions) next_is in (
            suc rest.0,
            omega (arith, rest.1),
            record {
              there = omega (arith, rest.2.there);
              from = omega (arith, rest.2.from, first);
              below = omega (arith, rest.2.below, next, inner);
            },
          )

  holds_drawn : (passed number : ℕ) (reactions : List Reaction) (i : ℕ) → Holds passed reactions i
      → reaction_drawn species passed number reactions word ≡ Some (number + i)
  holds_drawn passed number [] i holds = absurd (let l = holds.there in omega (arith, l))
  holds_drawn passed number (reaction ∷ reactions) zero holds =
      let less : word < passed + share_of species reaction = let b = holds.below in omega (arith, b, words_more reaction reactions 0) in
      let same : number ≡ number + 0 = omega arith in
      cond-true (nat_lt word (passed + share_of species reaction)) _ _ (lt-ltb word (passed + share_of species reaction) less)
      ∙ ap Some same
  holds_drawn passed number (reaction ∷ reactions) (suc i) holds =
      let first = words_suc reaction reactions i in
      let next = words_more reaction reactions (suc i) in
      let next_is : suc i ≡ i + 1 = omega arith in
      let inner : words reactions (suc i) ≡ words reactions (i + 1) = ap (words reactions) next_is in
      let past : passed + share_of species reaction ≤ word = let f = holds.from in omega (arith, f, first) in
      let same : (number + 1) + i ≡ number + suc i = omega arith in
      cond-false (nat_lt word (passed + share_of species reaction)) _ _ (le-ltb word (passed + share_of species reaction) past)
      ∙ holds_drawn (passed + share_of species reaction) (number + 1) reactions i (record {
        there = let l = holds.there in omega (arith, l);
        from = let f = holds.from in omega (arith, f, first);
        below = let b = holds.below in omega (arith, b, next, inner);
      })
      ∙ ap Some same

module _ (draft : Draft) (seed k : ℕ) (mol : Mol) where
  drawn_is : (r : ℕ) → lone_reaction draft seed k mol ≡ Some r → DrawsAlone draft seed k mol r
  drawn_is r is =
      let found = drawn_holds mol.species (first_order_word seed mol.serial k) 0 0 draft.reactions r (omega arith) is in
      let same : found.0 ≡ r = omega (arith, found.1) in
      subst (DrawsAlone draft seed k mol) same
      (record { there = found.2.there; from = let f = found.2.from in omega (arith, f); below = let b = found.2.below in omega (arith, b) })

  is_drawn : (r : ℕ) → DrawsAlone draft seed k mol r → lone_reaction draft seed k mol ≡ Some r
  is_drawn r draws =
      let same : 0 + r ≡ r = omega arith in
      holds_drawn mol.species (first_order_word seed mol.serial k) 0 0 draft.reactions r
      (record { there = draws.there; from = let f = draws.from in omega (arith, f); below = let b = draws.below in omega (arith, b) })
      ∙ ap Some same

  -- the reaction that a molecule makes alone is the one whose word it draws
  pub drawn_alone : (r : ℕ) → (lone_reaction draft seed k mol ≡ Some r) ↔ DrawsAlone draft seed k mol r
  drawn_alone r = (drawn_is r, is_drawn r)

  -- and it is free where it draws a word of none
  pub free_draws : is_free draft seed k mol ≡ true → DrawsNone draft seed k mol
  free_draws free r draws = no (lone_reaction draft seed k mol) (is_drawn r draws) free
    where
      no : (drawn : Option ℕ) → drawn ≡ Some r → is_none drawn ≡ true → ⊥
      no None is free = absurd (cc)
      no (Some other) is free = absurd (cc)

  pub draws_free : DrawsNone draft seed k mol → is_free draft seed k mol ≡ true
  draws_free none = go (lone_reaction draft seed k mol) refl
    where
      go : (drawn : Option ℕ) → lone_reaction draft seed k mol ≡ drawn → is_none drawn ≡ true
      go None is = refl
      go (Some r) is = absurd (none r (drawn_is r is))
