-- What a good state comes to: it follows serial matching, goes on where it can, and ends with every pair decided.
use Rattle.std.proofs.Common.{◌≡◌, ℕ, zero, suc, ◌<◌, Bool, true, false, not, ◌||◌, ◌==◌, List, length, Option, Some, None, ◌⊎◌, refl, sym, ◌∙◌, inl, inr, ⊎_elim, arith}
use Rattle.std.proofs.lemmas.Bool.{cases_Bool, cases_order, or_cases, or_left, or_right, or_parts, and_parts, and_from, both_ways, eqb-true, false≢true, not-true, not-false}
use Rattle.smol_plan.specs.declared.pair.Pair.{Pair}
use Rattle.smol_plan.specs.declared.pair.Side.{Side}
use Rattle.smol_plan.specs.declared.pair.Side.TheVariants.{Low, High}
use Rattle.smol_plan.specs.declared.event.Event.{Event}
use Rattle.smol_plan.specs.declared.event.Event.TheVariants.{Take, Decide, Tell}
use Rattle.smol_plan.specs.Pair.{pair_at, molecule_at, shares_molecule}
use Rattle.smol_plan.specs.Matching.{fires}
use Rattle.smol_plan.specs.Links.{has_at, is_link, any_below}
use Rattle.smol_plan.specs.Machine.{State, is_decided, is_fired, left_of, slice_count, slice_of, first_state, IsEnabled, effect}
use Rattle.smol_plan.specs.Good.{Good, IsHeld, IsUntouched, IsSettled, IsOwed}
use Rattle.smol_plan.specs.Law.{FollowsSerial, OfWorkers, IsFinished, AllDecided, SomeEnabled}
use Rattle.smol_plan.proofs.BelowLemmas.{any_below-true, any_below-false}
use Rattle.smol_plan.proofs.LinkLemmas.{SourceIs, no_source, a_source, source_cases, link_inside}
use Rattle.smol_plan.proofs.MatchingLemmas.{fires_at}
use Rattle.smol_plan.proofs.GoodLemmas.{AllTold, AllTold-from_left, left_of-zero, on_a_side, decided_value, EarlierDecided-from_told, owed_source}

module _ (pairs : List Pair) (state : State) (g : Good pairs state) where
  fired_decision : (j : ℕ) → is_fired state j ≡ true → state.decision j ≡ Some true
  fired_decision j e = go (state.decision j) refl
    where
      go : (o : Option Bool) → state.decision j ≡ o → state.decision j ≡ Some true
      go None h = absurd (false≢true (rw h at e))
      go (Some true) h = h
      go (Some false) h = absurd (false≢true (rw h at e))

  fired_fires : (j : ℕ) → is_fired state j ≡ true → fires pairs j ≡ true
  fired_fires j e = sym (g.decided j true (fired_decision j e)).value

  fired_inside : (j : ℕ) → is_fired state j ≡ true → j < length pairs
  fired_inside j e = (g.decided j true (fired_decision j e)).in_list

  shares_from : (m i j : ℕ) → has_at pairs m i ≡ true → has_at pairs m j ≡ true → shares_molecule (pair_at pairs i) (pair_at pairs j) ≡ true
  shares_from m i j hi hj = go (on_a_side pairs m j hj)
    where
      go : (side : Side) × (molecule_at pairs j side ≡ m) → shares_molecule (pair_at pairs i) (pair_at pairs j) ≡ true
      go (Low, e) =
          let h : has_at pairs (molecule_at pairs j Low) i ≡ true = rw e hi in
          or_left _ _ h
      go (High, e) =
          let h : has_at pairs (molecule_at pairs j High) i ≡ true = rw e hi in
          or_right _ _ h

  not_both : (m i j : ℕ) → i < j → is_fired state i ≡ true → is_fired state j ≡ true → has_at pairs m i ≡ true → has_at pairs m j ≡ true → ⊥
  not_both m i j l fi fj hi hj =
      let none = not-true _ (sym (fires_at pairs j (fired_inside j fj)) ∙ fired_fires j fj) in
      both_ways _ (any_below-false _ j none i l) (and_from _ _ (shares_from m i j hi hj) (fired_fires i fi))

  pub once : (m i j : ℕ) → is_fired state i ≡ true → is_fired state j ≡ true → has_at pairs m i ≡ true → has_at pairs m j ≡ true → i ≡ j
  once m i j fi fj hi hj = ⊎_elim
      (λ h. h)
      (λ h. ⊎_elim (λ (l : i < j). absurd (not_both m i j l fi fj hi hj)) (λ (l : j < i). absurd (not_both m j i l fj fi hj hi)) h)
      (cases_order i j)

  pub beaten : (j : ℕ) → state.decision j ≡ Some false → (i : ℕ) × (i < j) × (shares_molecule (pair_at pairs i) (pair_at pairs j) ≡ true) × (is_fired state i ≡ true)
  beaten j e =
      let d = g.decided j false e in
      let some = not-false _ (sym (fires_at pairs j d.in_list) ∙ sym d.value) in
      let found = any_below-true _ j some in
      let parts = and_parts _ _ found.2 in
      (found.0, found.1, parts.0, fired found.0 found.1 parts.0 parts.1 d.in_list (AllTold-from_left pairs state j d.all_told))
    where
      fired : (i : ℕ) → i < j → shares_molecule (pair_at pairs i) (pair_at pairs j) ≡ true → fires pairs i ≡ true → j < length pairs → AllTold pairs state j → is_fired state i ≡ true
      fired i l s f inside t =
          let decided : is_decided state i ≡ true = ⊎_elim
          (EarlierDecided-from_told pairs state g j inside t Low i l)
          (EarlierDecided-from_told pairs state g j inside t High i l)
          (or_cases _ _ s) in
          rw (decided_value pairs state g i decided) f

  -- a good state follows serial matching
  pub FollowsSerial-from_good : FollowsSerial pairs state
  FollowsSerial-from_good =
      record { value = λ j fired e. (g.decided j fired e).value; once = once; beaten = beaten }

module _ (pairs : List Pair) (state : State) (g : Good pairs state) (finished : IsFinished pairs state) where
  decided_next : (j : ℕ) → j < length pairs → ((i : ℕ) → i < j → is_decided state i ≡ true) → is_decided state j ≡ true
  decided_next j l before = go (state.decision j) refl
    where
      told : (side : Side) → is_link pairs j side ≡ true → SourceIs pairs j side → state.told j side ≡ true
      told side link (no_source n none) = absurd (false≢true (rw n at link))
      told side link (a_source i s last) = ⊎_elim
          (λ (h : IsSettled state j side). h.told)
          (λ (h : IsOwed state j side). absurd (both_ways _ (finished.none_owed h.worker j side) h.owes))
          (g.linked j side record { source = i; is = s; decided = before i last.earlier })

      all_told : left_of pairs state j ≡ 0
      all_told = left_of-zero pairs state j (λ side link. told side link (source_cases pairs j side l))

      wrong : IsHeld state j ⊎ IsUntouched pairs state j → ⊥
      wrong (inl h) = both_ways _ (finished.none_held h.0 j) h.1
      wrong (inr h) = both_ways _ h.untaken (finished.taken (slice_of j) (omega arith))

      go : (o : Option Bool) → state.decision j ≡ o → is_decided state j ≡ true
      go None e = absurd (wrong (g.waiting j l e all_told))
      go (Some fired) e = rw e refl

  decided_up_to : (bound j : ℕ) → j < bound → j < length pairs → is_decided state j ≡ true
  decided_up_to zero j b l = absurd (omega arith)
  decided_up_to (suc bound) j b l =
      decided_next j l (λ i h. decided_up_to bound i (omega arith) (omega arith))

  -- where nothing is left to do, every pair is decided
  pub AllDecided-from_finished : AllDecided pairs state
  AllDecided-from_finished j l = decided_up_to (suc j) j (omega arith) l

module _ (pairs : List Pair) (workers : ℕ) (state : State) (some : 0 < workers) (g : Good pairs state) (of : OfWorkers workers state) where
  -- no slice is untaken, or one may be taken
  take_or_all : SomeEnabled pairs workers state ⊎ ((s : ℕ) → s < slice_count pairs → state.taken s ≡ true)
  take_or_all = ⊎_elim
      (λ (e : any_below (λ s. not (state.taken s)) (slice_count pairs) ≡ true). let found = any_below-true _ _ e in inl (Take 0 found.0, record { in_range = (some, found.1); allowed = not-true _ found.2 }))
      (λ (e : any_below (λ s. not (state.taken s)) (slice_count pairs) ≡ false). inr (λ s l. not-false _ (any_below-false _ _ e s l)))
      (cases_Bool (any_below (λ s. not (state.taken s)) (slice_count pairs)))

  -- nothing is held, or a held pair may be decided
  decide_or_none : SomeEnabled pairs workers state ⊎ ((w j : ℕ) → state.holds w j ≡ false)
  decide_or_none = ⊎_elim some_held (λ e. inr (λ w j. none_held w j e (cases_Bool (state.holds w j)))) (cases_Bool (any_below (λ w. any_below (state.holds w) (length pairs)) workers))
    where
      some_held : any_below (λ w. any_below (state.holds w) (length pairs)) workers ≡ true → SomeEnabled pairs workers state ⊎ ((w j : ℕ) → state.holds w j ≡ false)
      some_held e =
          let w = any_below-true _ _ e in
          let j = any_below-true _ _ w.2 in
          inl (Decide w.0 j.0, record { in_range = (w.1, j.1); allowed = j.2 })

      none_held : (w j : ℕ) → any_below (λ w. any_below (state.holds w) (length pairs)) workers ≡ false → (state.holds w j ≡ true) ⊎ (state.holds w j ≡ false) → state.holds w j ≡ false
      none_held w j e (inl h) =
          any_below-false _ _ (any_below-false _ _ e w (of.holders w j h)) j (g.held w j h).in_list
      none_held w j e (inr h) = h

  -- nothing is owed, or an owed link may be told
  tell_or_none : SomeEnabled pairs workers state ⊎ ((w j : ℕ) (side : Side) → state.owes w j side ≡ false)
  tell_or_none = ⊎_elim some_owed (λ e. inr (λ w j side. none_owed w j side e (cases_Bool (state.owes w j side)))) (cases_Bool (any_below (λ w. any_below (λ j. state.owes w j Low || state.owes w j High) (length pairs)) workers))
    where
      some_owed : any_below (λ w. any_below (λ j. state.owes w j Low || state.owes w j High) (length pairs)) workers ≡ true → SomeEnabled pairs workers state ⊎ ((w j : ℕ) (side : Side) → state.owes w j side ≡ false)
      some_owed e =
          let w = any_below-true _ _ e in
          let j = any_below-true _ _ w.2 in
          ⊎_elim
          (λ (h : state.owes w.0 j.0 Low ≡ true). inl (Tell w.0 j.0 Low, record { in_range = (w.1, j.1); allowed = h }))
          (λ (h : state.owes w.0 j.0 High ≡ true). inl (Tell w.0 j.0 High, record { in_range = (w.1, j.1); allowed = h }))
          (or_cases _ _ j.2)

      on_side : (w j : ℕ) (side : Side) → (state.owes w j Low || state.owes w j High) ≡ false → state.owes w j side ≡ false
      on_side w j Low e = (or_parts _ _ e).0
      on_side w j High e = (or_parts _ _ e).1

      none_owed : (w j : ℕ) (side : Side) → any_below (λ w. any_below (λ j. state.owes w j Low || state.owes w j High) (length pairs)) workers ≡ false → (state.owes w j side ≡ true) ⊎ (state.owes w j side ≡ false) → state.owes w j side ≡ false
      none_owed w j side e (inl h) =
          let src = owed_source pairs state g w j side h in
          on_side w j side (any_below-false _ _ (any_below-false _ _ e w (of.owers w j side h)) j (link_inside pairs j side src.source src.is))
      none_owed w j side e (inr h) = h

  -- a good state is finished, or some event is enabled
  pub finished_or_enabled : IsFinished pairs state ⊎ SomeEnabled pairs workers state
  finished_or_enabled = ⊎_elim
      (λ e. inr e)
      (λ taken. ⊎_elim (λ e. inr e) (λ held. ⊎_elim (λ e. inr e) (λ owed. inl record { taken = taken; none_held = held; none_owed = owed }) tell_or_none) decide_or_none)
      take_or_all

-- at first nobody holds or owes
pub OfWorkers-first : (workers : ℕ) → OfWorkers workers first_state
OfWorkers-first workers =
    record { holders = λ w j h. absurd (false≢true h); owers = λ w j side h. absurd (false≢true h) }

is_worker : (w worker workers : ℕ) → (w == worker) ≡ true → worker < workers → w < workers
is_worker w worker workers e l = rw (eqb-true w worker e) l

-- an enabled event is by one of the workers
pub OfWorkers-effect : (pairs : List Pair) (workers : ℕ) (state : State) (event : Event) → IsEnabled pairs workers state event → OfWorkers workers state → OfWorkers workers (effect pairs state event)
OfWorkers-effect pairs workers state (Take worker slice) h of =
    record {
      holders = λ w j e. ⊎_elim (λ new. is_worker w worker workers (and_parts _ _ new).0 h.in_range.0) (λ old. of.holders w j old) (or_cases _ _ e);
      owers = of.owers;
    }
OfWorkers-effect pairs workers state (Decide worker pair) h of =
    record {
      holders = λ w j e. of.holders w j (and_parts _ _ e).1;
      owers = λ w j side e. ⊎_elim (λ new. is_worker w worker workers (and_parts _ _ new).0 h.in_range.0) (λ old. of.owers w j side old) (or_cases _ _ e);
    }
OfWorkers-effect pairs workers state (Tell worker pair side) h of =
    record {
      holders = λ w j e. ⊎_elim (λ new. is_worker w worker workers (and_parts _ _ new).0 h.in_range.0) (λ old. of.holders w j old) (or_cases _ _ e);
      owers = λ w j side e. of.owers w j side (and_parts _ _ e).1;
    }
