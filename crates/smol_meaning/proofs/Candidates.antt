-- The encounters of a step are the pairs that may meet.
use Rattle.std.proofs.Common.{⊎_elim, ◌≡◌, ℕ, zero, suc, ◌+◌, ◌<◌, Bool, true, false, cond, ◌⊎◌, inl, inr, List, [], ◌∷◌, ◌++◌, Some, refl, sym, ap, subst, ◌∙◌, arith}
use Rattle.std.specs.Prelude.{slice_get}
use Rattle.smol_geom.specs.Moments.{Has}
use Rattle.smol_types.specs.declared.draft.Draft.{Draft}
use Rattle.smol_types.specs.declared.reaction.Reaction.{Reaction}
use Rattle.smol_types.specs.declared.state.Mol.{Mol}
use Rattle.smol_meaning.specs.Encounters.{Encounter, encounters_from, encounters_of_two, encounters_with, may_react}
use Rattle.smol_meaning.specs.Events.{is_free}
use Rattle.smol_meaning.proofs.Meeting.{encounter}

has_left : {X : Type 0} → (xs ys : List X) (x : X) → Has xs x → Has (xs ++ ys) x
has_left [] ys x has = absurd has
has_left (y ∷ xs) ys x (inl e) = inl e
has_left (y ∷ xs) ys x (inr has) = inr (has_left xs ys x has)

has_right : {X : Type 0} → (xs ys : List X) (x : X) → Has ys x → Has (xs ++ ys) x
has_right [] ys x has = has
has_right (y ∷ xs) ys x has = inr (has_right xs ys x has)

has_either : {X : Type 0} → (xs ys : List X) (x : X) → Has (xs ++ ys) x → Has xs x ⊎ Has ys x
has_either [] ys x has = inr has
has_either (y ∷ xs) ys x (inl e) = inl (inl e)
has_either (y ∷ xs) ys x (inr has) = ⊎_elim (λ h. inl (inr h)) (λ h. inr h) (has_either xs ys x has)

-- what is among those that are taken
taken_has : {X : Type 0} → (here : Bool) (xs : List X) (x : X) → Has (cond here xs []) x → (here ≡ true) × Has xs x
taken_has true xs x has = (refl, has)
taken_has false xs x has = absurd has

has_taken : {X : Type 0} → (here : Bool) (xs : List X) (x : X) → here ≡ true → Has xs x → Has (cond here xs []) x
has_taken true xs x e has = has
has_taken false xs x e has = absurd (cc)

first_has : {X : Type 0} → (here : Bool) (y : X) (ys : List X) (x : X) → Has (cond here (y ∷ ys) ys) x →
    ((here ≡ true) × (y ≡ x)) ⊎ Has ys x
first_has true y ys x (inl e) = inl (refl, e)
first_has true y ys x (inr has) = inr has
first_has false y ys x has = inr has

has_first : {X : Type 0} → (here : Bool) (y : X) (ys : List X) → here ≡ true → Has (cond here (y ∷ ys) ys) y
has_first true y ys e = inl refl
has_first false y ys e = absurd (cc)

has_rest : {X : Type 0} → (here : Bool) (y : X) (ys : List X) (x : X) → Has ys x → Has (cond here (y ∷ ys) ys) x
has_rest true y ys x has = inr has
has_rest false y ys x has = has

module _ (draft : Draft) (seed k : ℕ) where
  -- two molecules may react by the reaction at this place of a list
  pub record ReactsBy (rank_a : ℕ) (a : Mol) (rank_b : ℕ) (b : Mol) (number : ℕ) (reactions : List Reaction) (e : Encounter)
      (i : ℕ) : Type 0 where
    pub reaction : Reaction
    pub listed : slice_get reactions i ≡ Some reaction
    pub same : encounter rank_a a rank_b b (number + i) ≡ e
    pub may : may_react draft seed k reaction e ≡ true

  pub two_are : (rank_a : ℕ) (a : Mol) (rank_b : ℕ) (b : Mol) (number : ℕ) (reactions : List Reaction) (e : Encounter)
      → Has (encounters_of_two draft seed k rank_a a rank_b b number reactions) e → (i : ℕ)
      × ReactsBy rank_a a rank_b b number reactions e i
  two_are rank_a a rank_b b number [] e has = absurd has
  two_are rank_a a rank_b b number (reaction ∷ reactions) e has =
      ⊎_elim here (λ there. later (two_are rank_a a rank_b b (number + 1) reactions e there))
      (first_has (may_react draft seed k reaction (encounter rank_a a rank_b b number)) (encounter rank_a a rank_b b number)
      (encounters_of_two draft seed k rank_a a rank_b b (number + 1) reactions) e has)
    where
      here : (may_react draft seed k reaction (encounter rank_a a rank_b b number) ≡ true) × (encounter rank_a a rank_b b number ≡ e)
          → (i : ℕ) × ReactsBy rank_a a rank_b b number (reaction ∷ reactions) e i
      here is =
          let at : number + 0 ≡ number = omega arith in (
            0,
            record {
              reaction = reaction;
              listed = refl;
              same = ap (encounter rank_a a rank_b b) at ∙ is.1;
              may = sym
                  (ap (may_react draft seed k reaction) is.1) ∙ is.0;
            },
          )

      later : (i : ℕ) × ReactsBy rank_a a rank_b b (number + 1) reactions e i → (i : ℕ) × ReactsBy rank_a a rank_b b number
          (reaction ∷ reactions) e i
      later rest =
          let at : number + suc rest.0 ≡ (number + 1) + rest.0 = omega arith in (
            suc rest.0,
            record {
              reaction = rest.1.reaction;
              listed = rest.1.listed;
              same = ap (encounter rank_a a rank_b b) at
                  ∙ rest.1.same;
              may = rest.1.may;
            },
          )

  pub are_two : (rank_a : ℕ) (a : Mol) (rank_b : ℕ) (b : Mol) (number : ℕ) (reactions : List Reaction) (i : ℕ) (reaction : Reaction)
      → slice_get reactions i ≡ Some reaction → may_react draft seed k reaction (encounter rank_a a rank_b b (number + i)) ≡ true
      → Has (encounters_of_two draft seed k rank_a a rank_b b number reactions) (encounter rank_a a rank_b b (number + i))
  are_two rank_a a rank_b b number [] i reaction is may = absurd (cc)
  are_two rank_a a rank_b b number (first ∷ reactions) zero reaction is may =
      let same : reaction ≡ first = cc in
      let at : number + 0 ≡ number = omega arith in
      let here : may_react draft seed k first (encounter rank_a a rank_b b number) ≡ true = subst
      (λ r. may_react draft seed k r (encounter rank_a a rank_b b number) ≡ true) same
      (subst (λ n. may_react draft seed k reaction (encounter rank_a a rank_b b n) ≡ true) at may) in
      subst (λ n. Has (encounters_of_two draft seed k rank_a a rank_b b number (first ∷ reactions)) (encounter rank_a a rank_b b n))
      (sym at)
      (has_first (may_react draft seed k first (encounter rank_a a rank_b b number)) (encounter rank_a a rank_b b number)
      (encounters_of_two draft seed k rank_a a rank_b b (number + 1) reactions) here)
  are_two rank_a a rank_b b number (first ∷ reactions) (suc i) reaction is may =
      let at : number + suc i ≡ (number + 1) + i = omega arith in
      subst (λ n. Has (encounters_of_two draft seed k rank_a a rank_b b number (first ∷ reactions)) (encounter rank_a a rank_b b n))
      (sym at)
      (has_rest (may_react draft seed k first (encounter rank_a a rank_b b number)) (encounter rank_a a rank_b b number)
      (encounters_of_two draft seed k rank_a a rank_b b (number + 1) reactions) _
      (are_two rank_a a rank_b b (number + 1) reactions i reaction is
      (subst (λ n. may_react draft seed k reaction (encounter rank_a a rank_b b n) ≡ true) at may)))

  -- the encounters of a molecule are those with a free one behind it
  record MeetsAt (rank_a : ℕ) (a : Mol) (rank_b : ℕ) (mols : List Mol) (e : Encounter) (i : ℕ) : Type 0 where
    other : Mol
    listed : slice_get mols i ≡ Some other
    free : is_free draft seed k other ≡ true
    has : Has (encounters_of_two draft seed k rank_a a (rank_b + i) other 0 draft.reactions) e

  with_are : (rank_a : ℕ) (a : Mol) (rank_b : ℕ) (mols : List Mol) (e : Encounter) → Has
      (encounters_with draft seed k rank_a a rank_b mols) e
      → (i : ℕ) × MeetsAt rank_a a rank_b mols e i
  with_are rank_a a rank_b [] e has = absurd has
  with_are rank_a a rank_b (b ∷ mols) e has =
      ⊎_elim here (λ there. later (with_are rank_a a (rank_b + 1) mols e there))
      (has_either _ (encounters_with draft seed k rank_a a (rank_b + 1) mols) e has)
    where
      here : Has (cond (is_free draft seed k b) (encounters_of_two draft seed k rank_a a rank_b b 0 draft.reactions) []) e → (i : ℕ)
          × MeetsAt rank_a a rank_b (b ∷ mols) e i
      here there =
          let is = taken_has (is_free draft seed k b) _ e there in
          let at : rank_b ≡ rank_b + 0 = omega arith in (
            0,
            record {
              other = b;
              listed = refl;
              free = is.0;
              has = subst
                  (λ n. Has (encounters_of_two draft seed k rank_a a n b 0 draft.reactions) e) at is.1;
            },
          )

      later : (i : ℕ) × MeetsAt rank_a a (rank_b + 1) mols e i → (i : ℕ) × MeetsAt rank_a a rank_b (b ∷ mols) e i
      later rest =
          let at : (rank_b + 1) + rest.0 ≡ rank_b + suc rest.0 = omega arith in (
            suc rest.0,
            record {
              other = rest.1.other;
              listed = rest.1.listed;
              free = rest.1.free;
              has = subst (λ n. Has (encounters_of_two draft seed k rank_a a n rest.1.other 0 draft.reactions) e) at rest.1.has;
            },
          )

  are_with : (rank_a : ℕ) (a : Mol) (rank_b : ℕ) (mols : List Mol) (e : Encounter) (i : ℕ) (b : Mol) → slice_get mols i ≡ Some b
      → is_free draft seed k b ≡ true
      → Has (encounters_of_two draft seed k rank_a a (rank_b + i) b 0 draft.reactions) e → Has
      (encounters_with draft seed k rank_a a rank_b mols) e
  are_with rank_a a rank_b [] e i b is free has = absurd (cc)
  are_with rank_a a rank_b (c ∷ mols) e zero b is free has =
      let same : b ≡ c = cc in
      let at : rank_b + 0 ≡ rank_b = omega arith in
      has_left (cond (is_free draft seed k c) (encounters_of_two draft seed k rank_a a rank_b c 0 draft.reactions) [])
      (encounters_with draft seed k rank_a a (rank_b + 1) mols) e
      (has_taken (is_free draft seed k c) _ e (ap (is_free draft seed k) (sym same) ∙ free)
      (subst (λ m. Has (encounters_of_two draft seed k rank_a a rank_b m 0 draft.reactions) e) same
      (subst (λ n. Has (encounters_of_two draft seed k rank_a a n b 0 draft.reactions) e) at has)))
  are_with rank_a a rank_b (c ∷ mols) e (suc i) b is free has =
      let at : rank_b + suc i ≡ (rank_b + 1) + i = omega arith in
      has_right (cond (is_free draft seed k c) (encounters_of_two draft seed k rank_a a rank_b c 0 draft.reactions) [])
      (encounters_with draft seed k rank_a a (rank_b + 1) mols) e
      (are_with rank_a a (rank_b + 1) mols e i b is free
      (subst (λ n. Has (encounters_of_two draft seed k rank_a a n b 0 draft.reactions) e) at has))

  -- all encounters are those of a free molecule with one behind it
  pub record MeetAt (rank : ℕ) (mols : List Mol) (e : Encounter) (i j : ℕ) : Type 0 where
    pub one : Mol
    pub other : Mol
    pub one_listed : slice_get mols i ≡ Some one
    pub other_listed : slice_get mols j ≡ Some other
    pub apart : i < j
    pub one_free : is_free draft seed k one ≡ true
    pub other_free : is_free draft seed k other ≡ true
    pub has : Has (encounters_of_two draft seed k (rank + i) one (rank + j) other 0 draft.reactions) e

  pub from_are : (rank : ℕ) (mols : List Mol) (e : Encounter) → Has (encounters_from draft seed k rank mols) e → (i : ℕ) × (j : ℕ)
      × MeetAt rank mols e i j
  from_are rank [] e has = absurd has
  from_are rank (a ∷ mols) e has =
      ⊎_elim here (λ there. later (from_are (rank + 1) mols e there)) (has_either _ (encounters_from draft seed k (rank + 1) mols) e has)
    where
      here : Has (cond (is_free draft seed k a) (encounters_with draft seed k rank a (rank + 1) mols) []) e → (i : ℕ) × (j : ℕ)
          × MeetAt rank (a ∷ mols) e i j
      here there =
          let is = taken_has (is_free draft seed k a) _ e there in
          let met = with_are rank a (rank + 1) mols e is.1 in
          let at_a : rank ≡ rank + 0 = omega arith in
          let at_b : (rank + 1) + met.0 ≡ rank + suc met.0 = omega arith in (
            0,
            suc met.0,
            record {
              one = a;
              other = met.1.other;
              one_listed = refl;
              other_listed = met.1.listed;
              apart = omega arith;
              one_free = is.0;
              other_free = met.1.free;
              has = subst (λ n. Has (encounters_of_two draft seed k n a (rank + suc met.0) met.1.other 0 draft.reactions) e) at_a
                  (subst (λ n. Has (encounters_of_two draft seed k rank a n met.1.other 0 draft.reactions) e) at_b met.1.has);
            },
          )

      later : (i : ℕ) × (j : ℕ) × MeetAt (rank + 1) mols e i j → (i : ℕ) × (j : ℕ) × MeetAt rank (a ∷ mols) e i j
      later rest =
          let m = rest.2 in
          let at_a : (rank + 1) + rest.0 ≡ rank + suc rest.0 = omega arith in
          let at_b : (rank + 1) + rest.1 ≡ rank + suc rest.1 = omega arith in (
            suc rest.0,
            suc rest.1,
            record {
              one = m.one;
              other = m.other;
              one_listed = m.one_listed;
              other_listed = m.other_listed;
              apart = let l = m.apart in omega (arith, l);
              one_free = m.one_free;
              other_free = m.other_free;
              has = subst (λ n. Has (encounters_of_two draft seed k n m.one (rank + suc rest.1) m.other 0 draft.reactions) e) at_a
                  (subst (λ n. Has (encounters_of_two draft seed k ((rank + 1) + rest.0) m.one n m.other 0 draft.reactions) e) at_b m.has);
            },
          )

  pub are_from : (rank : ℕ) (mols : List Mol) (e : Encounter) (i j : ℕ) (a b : Mol) → slice_get mols i ≡ Some a
      → slice_get mols j ≡ Some b → i < j
      → is_free draft seed k a ≡ true → is_free draft seed k b ≡ true
      → Has (encounters_of_two draft seed k (rank + i) a (rank + j) b 0 draft.reactions) e → Has (encounters_from draft seed k rank mols) e
  are_from rank [] e i j a b is_a is_b less free_a free_b has = absurd (cc)
  are_from rank (c ∷ mols) e i zero a b is_a is_b less free_a free_b has = absurd (omega (arith, less))
  are_from rank (c ∷ mols) e zero (suc j) a b is_a is_b less free_a free_b has =
      let same : a ≡ c = cc in
      let at_a : rank + 0 ≡ rank = omega arith in
      let at_b : rank + suc j ≡ (rank + 1) + j = omega arith in
      has_left (cond (is_free draft seed k c) (encounters_with draft seed k rank c (rank + 1) mols) [])
      (encounters_from draft seed k (rank + 1) mols) e
      (has_taken (is_free draft seed k c) _ e (ap (is_free draft seed k) (sym same) ∙ free_a)
      (are_with rank c (rank + 1) mols e j b is_b free_b
      (subst (λ m. Has (encounters_of_two draft seed k rank m ((rank + 1) + j) b 0 draft.reactions) e) same
      (subst (λ n. Has (encounters_of_two draft seed k rank a n b 0 draft.reactions) e) at_b
      (subst (λ n. Has (encounters_of_two draft seed k n a (rank + suc j) b 0 draft.reactions) e) at_a has)))))
  are_from rank (c ∷ mols) e (suc i) (suc j) a b is_a is_b less free_a free_b has =
      let at_a : rank + suc i ≡ (rank + 1) + i = omega arith in
      let at_b : rank + suc j ≡ (rank + 1) + j = omega arith in
      has_right (cond (is_free draft seed k c) (encounters_with draft seed k rank c (rank + 1) mols) [])
      (encounters_from draft seed k (rank + 1) mols) e
      (are_from (rank + 1) mols e i j a b is_a is_b (omega (arith, less)) free_a free_b
      (subst (λ n. Has (encounters_of_two draft seed k ((rank + 1) + i) a n b 0 draft.reactions) e) at_b
      (subst (λ n. Has (encounters_of_two draft seed k n a (rank + suc j) b 0 draft.reactions) e) at_a has)))
