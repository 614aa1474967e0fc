-- The effect that comes first of all that are met decides.
use Rattle.std.proofs.Common.{⊎_elim, ◌≡◌, ℕ, zero, suc, ◌+◌, ◌<◌, ◌≤◌, true, ◌⊎◌, inl, inr, List, [], ◌∷◌, length, get_or, nat_le, refl, sym, ◌∙◌, subst, arith}
use Rattle.std.proofs.lemmas.Bool.{cases_Bool, cases_lt, cond_both, le-leb, lt-leb}
use Rattle.smol_geom.specs.declared.moment.Moment.{Moment}
use Rattle.smol_types.specs.declared.draft.Draft.{Draft}
use Rattle.smol_cells.proofs.Members.{contains_of_has, has_of_contains}
use Rattle.smol_meaning.specs.declared.way.Effect.{Effect}
use Rattle.smol_meaning.specs.declared.way.Response.{Response}
use Rattle.smol_meaning.specs.declared.way.Response.TheVariants.{Reflect, Absorb, Jump, Pass}
use Rattle.smol_meaning.specs.Plates.{Plate, deciding, effect_of, effects_met, goes_up, precedence}
use Rattle.smol_meaning.specs.Seen.{plates_of}
use Rattle.smol_meaning.specs.Way.{deciding_at}
use Rattle.smol_meaning.proofs.Bounds.{unmet}
use Rattle.smol_travel.specs.declared.decision.Best.{Best}
use Rattle.smol_travel.specs.declared.leg.Leg.{Leg}
use Rattle.smol_travel.specs.Legs.{meets}
use Rattle.smol_travel.specs.Looked.{AreLeft, ComesFirst, IsBestBut, IsMetBy, IsOfOne, best_at, effect_at, nowhere}

-- no response has a higher precedence than that which lets through
most : (r : Response) → precedence r ≤ 3
most Reflect = omega arith
most (Absorb number) = omega arith
most (Jump by up) = omega arith
most Pass = omega arith

module _ (leg : Leg) (m : Moment) (species : ℕ) where
  abbrev MetAt : List Plate → ℕ → Type 0
  MetAt plates n = meets leg m (get_or plates n nowhere).sheet ≡ true

  abbrev done_at : List Plate → ℕ → Effect
  done_at plates n = effect_of (get_or plates n nowhere) (goes_up leg.by leg.fold m.axis) species

  abbrev decides : List Plate → Effect
  decides plates = deciding_at plates leg.from leg.by leg.fold m species

  -- what is at most the precedence of all that are met is at most that of what decides
  at_most : (plates : List Plate) (p : ℕ) → p ≤ 3 → ((n : ℕ) → n < length plates → MetAt plates n → p ≤ precedence (done_at plates n).response)
      → p ≤ precedence (decides plates).response
  unfolding deciding effects_met
  at_most [] p small all = small
  at_most (plate ∷ plates) p small all =
      let rest = at_most plates p small (λ n l met. all (suc n) (omega arith) met) in
      ⊎_elim
      (λ (met : meets leg m plate.sheet ≡ true). rw met
      (cond_both (nat_le (precedence (done_at (plate ∷ plates) 0).response) (precedence (decides plates).response)) (done_at (plate ∷ plates) 0) (decides plates)
      (λ e. p ≤ precedence e.response) (λ _. all 0 (omega arith) met) (λ _. rest)))
      (λ none. rw none rest)
      (cases_Bool (meets leg m plate.sheet))

  -- the effect of the number that comes first is what decides
  first_decides : (plates : List Plate) (k : ℕ) (effect : Effect)
      → ((k < length plates) × MetAt plates k × (effect ≡ done_at plates k)) ⊎ ((k ≡ length plates) × (effect ≡ unmet species))
      → ((n : ℕ) → n < length plates → MetAt plates n
      → (precedence effect.response < precedence (done_at plates n).response)
      ⊎ ((precedence effect.response ≡ precedence (done_at plates n).response) × (k ≤ n)))
      → effect ≡ decides plates
  unfolding deciding effects_met
  first_decides [] k effect (inl own) first = absurd (omega (arith, own.0))
  first_decides [] k effect (inr none) first = none.1
  first_decides (plate ∷ plates) zero effect (inr none) first = absurd (omega (arith, none.0))
  first_decides (plate ∷ plates) zero effect (inl own) first =
      let least : precedence effect.response ≤ precedence (decides plates).response =
      at_most plates (precedence effect.response) (most effect.response)
      (λ n l met. ⊎_elim (λ h. omega (arith, h)) (λ h. omega (arith, h.0)) (first (suc n) (omega arith) met)) in
      let own_least : precedence (done_at (plate ∷ plates) 0).response ≤ precedence (decides plates).response =
      subst (λ (e : Effect). precedence e.response ≤ precedence (decides plates).response) own.2 least in
      own.2 ∙ sym (rw (own.1, le-leb _ _ own_least) refl)
  first_decides (plate ∷ plates) (suc k) effect own first =
      let rest : effect ≡ decides plates =
      first_decides plates k effect
      (⊎_elim (λ h. inl (omega (arith, h.0), h.1, h.2)) (λ h. inr (omega (arith, h.0), h.1)) own)
      (λ n l met. ⊎_elim (λ h. inl h) (λ h. inr (h.0, omega (arith, h.1))) (first (suc n) (omega arith) met)) in
      ⊎_elim
      (λ (met : meets leg m plate.sheet ≡ true).
      let less : precedence effect.response < precedence (done_at (plate ∷ plates) 0).response =
      ⊎_elim (λ h. h) (λ h. absurd (omega (arith, h.1))) (first 0 (omega arith) met) in
      let later : precedence (decides plates).response < precedence (done_at (plate ∷ plates) 0).response =
      subst (λ (e : Effect). precedence e.response < precedence (done_at (plate ∷ plates) 0).response) rest less in
      rest ∙ sym (rw (met, lt-leb _ _ later) refl))
      (λ none. rest ∙ sym (rw none refl))
      (cases_Bool (meets leg m plate.sheet))

first_trans : (a b c : Best) → ComesFirst a b → ComesFirst b c → ComesFirst a c
first_trans a b c (inl x) (inl y) = inl (omega (arith, x, y))
first_trans a b c (inl x) (inr y) = inl (omega (arith, x, y.0))
first_trans a b c (inr x) (inl y) = inl (omega (arith, x.0, y))
first_trans a b c (inr x) (inr y) = inr (omega (arith, x.0, y.0), omega (arith, x.1, y.1))

module _ (draft : Draft) (leg : Leg) (m : Moment) (species : ℕ) where
  -- before anything is looked at the molecule passes as it is
  pub best_first : (bound count : ℕ) (left : List ℕ) → species < length draft.species → count ≡ length (plates_of draft) → AreLeft draft leg bound left m
      → IsBestBut draft leg m species bound left (record { number = count; effect = unmet species })
  best_first bound count left known counted near =
      record { known = known; one = inr (counted, refl); first = λ n below met. inl (near n below met) }

  module _ (bound : ℕ) where
    pub best_more : (best : Best) → IsBestBut draft leg m species bound [] best → IsBestBut draft leg m species (bound + 1) (bound ∷ []) best
    best_more best old =
        record {
          known = old.known;
          one = old.one;
          first = λ n below met.
              ⊎_elim
              (λ (less : n < bound). ⊎_elim (λ there. absurd (has_of_contains [] n there)) (λ first. inr first) (old.first n less met))
              (λ (past : bound ≤ n). let same : bound ≡ n = omega arith in inl (contains_of_has (bound ∷ []) n (inl same)))
              (cases_lt n bound);
        }

    pub best_of_all : (best : Best) → length (plates_of draft) ≤ bound → IsBestBut draft leg m species bound [] best
        → best.effect ≡ deciding_at (plates_of draft) leg.from leg.by leg.fold m species
    best_of_all best all old =
        first_decides leg m species (plates_of draft) best.number best.effect old.one
        (λ n l met. ⊎_elim (λ there. absurd (has_of_contains [] n there)) (λ first. first) (old.first n (omega (arith, all, l)) met))

    module _ (number : ℕ) (left : List ℕ) (best : Best) (old : IsBestBut draft leg m species bound (number ∷ left) best) where
      -- one that isn't met changes nothing
      pub best_same : (IsMetBy draft leg m number → ⊥) → IsBestBut draft leg m species bound left best
      best_same none =
          record {
            known = old.known;
            one = old.one;
            first = λ n below met.
                ⊎_elim
                (λ there. ⊎_elim
                (λ (same : number ≡ n). absurd (none (subst (IsMetBy draft leg m) (sym same) met)))
                (λ more. inl (contains_of_has left n more))
                (has_of_contains (number ∷ left) n there))
                (λ first. inr first)
                (old.first n below met);
          }

      -- of one that is met and the best so far the one that comes first is the best
      pub best_met : (new own : Best) → number < length (plates_of draft) → IsMetBy draft leg m number
          → own ≡ best_at draft leg m species number → own.effect.species < length draft.species
          → ComesFirst new own → ComesFirst new best → (new ≡ own) ⊎ (new ≡ best) → IsBestBut draft leg m species bound left new
      best_met new own within here is known first_own first_best either =
          record {
            known = ⊎_elim
                (λ (e : new ≡ own). subst (λ (b : Best). b.effect.species < length draft.species) (sym e) known)
                (λ (e : new ≡ best). subst (λ (b : Best). b.effect.species < length draft.species) (sym e) old.known)
                either;
            one = ⊎_elim
                (λ (e : new ≡ own).
                let whole = e ∙ is in
                inl (
                  subst (λ (b : Best). b.number < length (plates_of draft)) (sym whole) within,
                  subst (λ (b : Best). IsMetBy draft leg m b.number) (sym whole) here,
                  subst (λ (b : Best). b.effect ≡ effect_at draft leg m species b.number) (sym whole) refl,
                ))
                (λ (e : new ≡ best). subst (IsOfOne draft leg m species) (sym e) old.one)
                either;
            first = λ n below met.
                ⊎_elim
                (λ there. ⊎_elim
                (λ (same : number ≡ n). inr (subst (λ k. ComesFirst new (best_at draft leg m species k)) same (subst (ComesFirst new) is first_own)))
                (λ more. inl (contains_of_has left n more))
                (has_of_contains (number ∷ left) n there))
                (λ first. inr (first_trans new best (best_at draft leg m species n) first_best first))
                (old.first n below met);
          }
