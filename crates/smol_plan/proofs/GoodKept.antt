-- Each event that is enabled keeps a state good.
use Rattle.std.proofs.Common.{◌≡◌, ℕ, ◌<◌, Bool, true, false, not, ◌&&◌, ◌==◌, nat_lt, List, [], ◌∷◌, length, Option, Some, None, ◌⊎◌, refl, sym, ◌∙◌, ap, inl, inr, ⊎_elim}
use Rattle.std.proofs.lemmas.Bool.{cases_Bool, or_cases, or_left, or_right, or_from, or_parts, and_parts, and_from, and_left, and_right, both_ways, eqb-true, eq-eqb, ltb-true, lt-ltb, false≢true, not_from_false, not_from_true, not-true}
use Rattle.smol_plan.specs.declared.pair.Pair.{Pair}
use Rattle.smol_plan.specs.declared.pair.Side.{Side}
use Rattle.smol_plan.specs.declared.pair.Side.TheVariants.{Low, High}
use Rattle.smol_plan.specs.declared.event.Event.{Event}
use Rattle.smol_plan.specs.declared.event.Event.TheVariants.{Take, Decide, Tell}
use Rattle.smol_plan.specs.Pair.{is_side}
use Rattle.smol_plan.specs.Matching.{fires}
use Rattle.smol_plan.specs.Links.{source_of, is_link, is_number, comes_from}
use Rattle.smol_plan.specs.Machine.{State, first_state, slice_of, is_decided, has_no_link, left_of, after_take, after_decide, with_told, after_tell, effect, effects, IsAllowed, AreEnabled}
use Rattle.smol_plan.specs.Good.{Good, HasDecidedSource, IsSettled, IsOwed, IsQuiet, IsDecidedWell, IsHeldWell, IsHeld, IsUntouched, IsIdle}
use Rattle.smol_plan.proofs.SideLemmas.{is_side-true}
use Rattle.smol_plan.proofs.LinkLemmas.{link_inside}
use Rattle.smol_plan.proofs.GoodLemmas.{AllTold, AllTold-from_left, left_of-zero, owed_source, owed_once, is_beaten-fires}

-- a pair without links has all of its links told
no_link_told : (pairs : List Pair) (state : State) (j : ℕ) → has_no_link pairs j ≡ true → AllTold pairs state j
no_link_told pairs state j e Low l =
    absurd (both_ways _ (not-true _ (and_parts _ _ e).0) l)
no_link_told pairs state j e High l =
    absurd (both_ways _ (not-true _ (and_parts _ _ e).1) l)

-- the first state is good
pub Good-first : (pairs : List Pair) → Good pairs first_state
Good-first pairs =
    record {
      decided = λ j fired e. absurd (not_some fired e);
      linked = λ j side h. absurd (false≢true h.decided);
      quiet = λ j side n. record { untold = refl; nobody = λ w. refl };
      held = λ w j h. absurd (false≢true h);
      waiting = λ j l u t. inr record { no_link = unlinked j (AllTold-from_left pairs first_state j t); untaken = refl };
      untouched = λ j l h. record { undecided = refl; nobody = λ w. refl };
    }
  where
    not_some : (fired : Bool) → None ≡ Some fired → ⊥
    not_some fired e = cc

    unlinked_on : (j : ℕ) (side : Side) → AllTold pairs first_state j → not (is_link pairs j side) ≡ true
    unlinked_on j side t = ⊎_elim
        (λ (e : is_link pairs j side ≡ true). absurd (false≢true (t side e)))
        (λ (e : is_link pairs j side ≡ false). not_from_false _ e)
        (cases_Bool (is_link pairs j side))

    unlinked : (j : ℕ) → AllTold pairs first_state j → has_no_link pairs j ≡ true
    unlinked j t = and_from _ _ (unlinked_on j Low t) (unlinked_on j High t)

module _ (pairs : List Pair) (state : State) (worker slice : ℕ) (untaken : state.taken slice ≡ false) (g : Good pairs state) where
  -- the pair is of the slice and has no link, so that the worker gets it
  record IsGiven (w j : ℕ) : Type 0 where
    by : w ≡ worker
    in_list : j < length pairs
    in_slice : slice_of j ≡ slice
    no_link : has_no_link pairs j ≡ true

  given_from : (w j : ℕ) → ((w == worker) && (nat_lt j (length pairs) && ((slice_of j == slice) && has_no_link pairs j))) ≡ true → IsGiven w j
  given_from w j e =
      let a = and_parts _ _ e in
      let b = and_parts _ _ a.1 in
      let c = and_parts _ _ b.1 in
      record { by = eqb-true _ _ a.0; in_list = ltb-true _ _ b.0; in_slice = eqb-true _ _ c.0; no_link = c.1 }

  -- before the take such a pair is undecided and not held
  given_idle : (w j : ℕ) → IsGiven w j → IsIdle state j
  given_idle w j h =
      g.untouched j h.in_list record { no_link = h.no_link; untaken = rw h.in_slice untaken }

  take_held : (w j : ℕ) → (after_take pairs state worker slice).holds w j ≡ true → IsHeldWell pairs (after_take pairs state worker slice) w j
  take_held w j e = ⊎_elim
      (λ new. first (given_from w j new))
      (λ (old : state.holds w j ≡ true). second old (g.held w j old))
      (or_cases _ _ e)
    where
      first : IsGiven w j → IsHeldWell pairs (after_take pairs state worker slice) w j
      first h =
          record {
            in_list = h.in_list;
            undecided = (given_idle w j h).undecided;
            all_told = left_of-zero pairs state j (no_link_told pairs state j h.no_link);
            alone = λ v hv. ⊎_elim (λ new. (given_from v j new).by ∙ sym h.by) (λ old. absurd (both_ways _ ((given_idle w j h).nobody v) old)) (or_cases _ _ hv);
          }

      second : state.holds w j ≡ true → IsHeldWell pairs state w j → IsHeldWell pairs (after_take pairs state worker slice) w j
      second old h =
          record {
            in_list = h.in_list;
            undecided = h.undecided;
            all_told = h.all_told;
            alone = λ v hv. ⊎_elim (λ new. absurd (both_ways _ ((given_idle v j (given_from v j new)).nobody w) old)) (λ was. h.alone v was) (or_cases _ _ hv);
          }

  take_waiting : (j : ℕ) → j < length pairs → IsHeld state j ⊎ IsUntouched pairs state j → IsHeld (after_take pairs state worker slice) j ⊎ IsUntouched pairs (after_take pairs state worker slice) j
  take_waiting j l (inl h) = inl (h.0, or_right _ _ h.1)
  take_waiting j l (inr h) = ⊎_elim
      (λ (e : (slice_of j == slice) ≡ true). inl (worker, or_left _ (state.holds worker j) (and_from _ _ (eq-eqb worker worker refl) (and_from _ _ (lt-ltb _ _ l) (and_from _ _ e h.no_link)))))
      (λ (e : (slice_of j == slice) ≡ false). inr record { no_link = h.no_link; untaken = or_from _ _ e h.untaken })
      (cases_Bool (slice_of j == slice))

  take_untouched : (j : ℕ) → j < length pairs → IsUntouched pairs (after_take pairs state worker slice) j → IsIdle (after_take pairs state worker slice) j
  take_untouched j l h =
      let parts = or_parts _ _ h.untaken in
      let idle = g.untouched j l record { no_link = h.no_link; untaken = parts.1 } in
      record {
        undecided = idle.undecided;
        nobody = λ w. or_from _ _ (and_right _ _ (and_right _ _ (and_left _ _ parts.0))) (idle.nobody w);
      }

  pub Good-take : Good pairs (after_take pairs state worker slice)
  Good-take =
      record {
        decided = λ j fired e. let h = g.decided j fired e in record { in_list = h.in_list; value = h.value; all_told = h.all_told };
        linked = λ j side h. ⊎_elim (λ (s : IsSettled state j side). inl record { told = s.told; nobody = s.nobody }) (λ (o : IsOwed state j side). inr record { untold = o.untold; worker = o.worker; owes = o.owes; alone = o.alone }) (g.linked j side record { source = h.source; is = h.is; decided = h.decided });
        quiet = λ j side n. let q = g.quiet j side (λ h. n record { source = h.source; is = h.is; decided = h.decided }) in record { untold = q.untold; nobody = q.nobody };
        held = take_held;
        waiting = λ j l u t. take_waiting j l (g.waiting j l u t);
        untouched = take_untouched;
      }

pub is_number_from : (j : ℕ) (o : Option ℕ) → is_number j o ≡ true → o ≡ Some j
is_number_from j None e = absurd (false≢true e)
is_number_from j (Some i) e = ap Some (eqb-true _ _ e)

not_this : (a b : Bool) → not (a && b) ≡ true → a ≡ true → b ≡ false
not_this true true e h = absurd (false≢true e)
not_this true false e h = refl
not_this false b e h = absurd (false≢true h)

module _ (pairs : List Pair) (state : State) (worker pair : ℕ) (holds : state.holds worker pair ≡ true) (g : Good pairs state) where
  held_well : IsHeldWell pairs state worker pair
  held_well = g.held worker pair holds

  undecided_before : is_decided state pair ≡ false
  undecided_before = rw held_well.undecided refl

  -- the decided pair is so in the new state, and others are as they were
  decision_other : (j : ℕ) → (j == pair) ≡ false → (after_decide pairs state worker pair).decision j ≡ state.decision j
  decision_other j e = rw e refl

  decision_this : (j : ℕ) → (j == pair) ≡ true → (after_decide pairs state worker pair).decision j ≡ Some (fires pairs pair)
  decision_this j e =
      rw e (ap Some (is_beaten-fires pairs state g pair held_well.in_list (AllTold-from_left pairs state pair held_well.all_told)))

  -- what was decided stays so
  still_decided : (j : ℕ) → is_decided state j ≡ true → is_decided (after_decide pairs state worker pair) j ≡ true
  still_decided j d = ⊎_elim
      (λ (e : (j == pair) ≡ true). rw e refl)
      (λ (e : (j == pair) ≡ false). rw e d)
      (cases_Bool (j == pair))

  still_sourced : (j : ℕ) (side : Side) → HasDecidedSource pairs state j side → HasDecidedSource pairs (after_decide pairs state worker pair) j side
  still_sourced j side h = record { source = h.source; is = h.is; decided = still_decided h.source h.decided }

  -- a link from the pair had no decided source, so it is neither told nor owed
  was_quiet : (j : ℕ) (side : Side) → source_of pairs j side ≡ Some pair → IsQuiet state j side
  was_quiet j side e =
      g.quiet j side (λ h. let both : Some h.source ≡ Some pair = sym h.is ∙ e in let same : h.source ≡ pair = cc in both_ways _ undecided_before (rw same at h.decided))

  -- a link that comes from another pair
  comes_from_other : (i j : ℕ) (side : Side) → source_of pairs j side ≡ Some i → (i == pair) ≡ false → comes_from pairs pair j side ≡ false
  comes_from_other i j side e n = rw e n

  comes_from_this : (i j : ℕ) (side : Side) → source_of pairs j side ≡ Some i → (i == pair) ≡ true → comes_from pairs pair j side ≡ true
  comes_from_this i j side e n = rw e n

  decide_new : (j : ℕ) (side : Side) → source_of pairs j side ≡ Some pair → IsOwed (after_decide pairs state worker pair) j side
  decide_new j side e =
      let q = was_quiet j side e in
      record {
        untold = q.untold;
        worker = worker;
        owes = or_left _ (state.owes worker j side) (and_from _ _ (eq-eqb worker worker refl) (comes_from_this pair j side e (eq-eqb pair pair refl)));
        alone = λ w h. ⊎_elim (λ new. eqb-true _ _ (and_parts _ _ new).0) (λ old. absurd (both_ways _ (q.nobody w) old)) (or_cases _ _ h);
      }

  decide_old : (j : ℕ) (side : Side) → comes_from pairs pair j side ≡ false → IsSettled state j side ⊎ IsOwed state j side → IsSettled (after_decide pairs state worker pair) j side ⊎ IsOwed (after_decide pairs state worker pair) j side
  decide_old j side e (inl s) =
      inl record { told = s.told; nobody = λ w. or_from _ _ (and_right _ _ e) (s.nobody w) }
  decide_old j side e (inr o) =
      inr record {
        untold = o.untold;
        worker = o.worker;
        owes = or_right _ _ o.owes;
        alone = λ w h. ⊎_elim (λ new. absurd (both_ways _ e (and_parts _ _ new).1)) (λ old. o.alone w old) (or_cases _ _ h);
      }

  decide_linked : (j : ℕ) (side : Side) → HasDecidedSource pairs (after_decide pairs state worker pair) j side → IsSettled (after_decide pairs state worker pair) j side ⊎ IsOwed (after_decide pairs state worker pair) j side
  decide_linked j side h = ⊎_elim
      (λ (e : (h.source == pair) ≡ true). inr (decide_new j side (h.is ∙ ap Some (eqb-true _ _ e))))
      (λ (e : (h.source == pair) ≡ false). decide_old j side (comes_from_other h.source j side h.is e) (g.linked j side record { source = h.source; is = h.is; decided = rw (decision_other h.source e) at h.decided }))
      (cases_Bool (h.source == pair))

  decide_quiet : (j : ℕ) (side : Side) → ¬ HasDecidedSource pairs (after_decide pairs state worker pair) j side → IsQuiet (after_decide pairs state worker pair) j side
  decide_quiet j side n =
      let q = g.quiet j side (λ h. n (still_sourced j side h)) in
      record { untold = q.untold; nobody = λ w. or_from _ _ (and_right _ _ other) (q.nobody w) }
    where
      other : comes_from pairs pair j side ≡ false
      other = ⊎_elim
          (λ (e : comes_from pairs pair j side ≡ true). absurd (n record { source = pair; is = is_number_from pair _ e; decided = rw (eq-eqb pair pair refl) refl }))
          (λ (e : comes_from pairs pair j side ≡ false). e)
          (cases_Bool (comes_from pairs pair j side))

  -- a pair that is held in the new state is another one, and was held before
  other_held : (w j : ℕ) → (after_decide pairs state worker pair).holds w j ≡ true → (state.holds w j ≡ true) × ((j == pair) ≡ false)
  other_held w j h =
      let parts = and_parts _ _ h in
      (parts.1, ⊎_elim (λ (e : (j == pair) ≡ true). not_this _ _ parts.0 (eq-eqb _ _ (held_well.alone w (rw (eqb-true j pair e) at parts.1)))) (λ (e : (j == pair) ≡ false). e) (cases_Bool (j == pair)))

  decide_held : (w j : ℕ) → (after_decide pairs state worker pair).holds w j ≡ true → IsHeldWell pairs (after_decide pairs state worker pair) w j
  decide_held w j e =
      let was = other_held w j e in
      let h = g.held w j was.0 in
      record {
        in_list = h.in_list;
        undecided = decision_other j was.1 ∙ h.undecided;
        all_told = h.all_told;
        alone = λ v hv. h.alone v (and_parts _ _ hv).1;
      }

  decide_decided : (j : ℕ) (fired : Bool) → (after_decide pairs state worker pair).decision j ≡ Some fired → IsDecidedWell pairs (after_decide pairs state worker pair) j fired
  decide_decided j fired e = ⊎_elim
      (λ (q : (j == pair) ≡ true). this (eqb-true _ _ q) (sym (decision_this j q) ∙ e))
      (λ (q : (j == pair) ≡ false). let h = g.decided j fired (sym (decision_other j q) ∙ e) in record { in_list = h.in_list; value = h.value; all_told = h.all_told })
      (cases_Bool (j == pair))
    where
      this : j ≡ pair → Some (fires pairs pair) ≡ Some fired → IsDecidedWell pairs (after_decide pairs state worker pair) j fired
      this q h =
          let value : fires pairs pair ≡ fired = cc in
          record { in_list = rw q held_well.in_list; value = rw q (sym value); all_told = rw q held_well.all_told }

  decide_waiting : (j : ℕ) → (j == pair) ≡ false → IsHeld state j ⊎ IsUntouched pairs state j → IsHeld (after_decide pairs state worker pair) j ⊎ IsUntouched pairs (after_decide pairs state worker pair) j
  decide_waiting j e (inl h) = inl (h.0, and_from _ _ (not_from_false _ (and_right _ _ e)) h.1)
  decide_waiting j e (inr h) = inr record { no_link = h.no_link; untaken = h.untaken }

  decide_other : (j : ℕ) → (after_decide pairs state worker pair).decision j ≡ None → (j == pair) ≡ false
  decide_other j u = ⊎_elim
      (λ (e : (j == pair) ≡ true). let wrong : Some (fires pairs pair) ≡ None = sym (decision_this j e) ∙ u in cc)
      (λ (e : (j == pair) ≡ false). e)
      (cases_Bool (j == pair))

  decide_untouched : (j : ℕ) → j < length pairs → IsUntouched pairs (after_decide pairs state worker pair) j → IsIdle (after_decide pairs state worker pair) j
  decide_untouched j l h =
      let idle = g.untouched j l record { no_link = h.no_link; untaken = h.untaken } in
      record { undecided = decision_other j (other idle) ∙ idle.undecided; nobody = λ w. and_right _ _ (idle.nobody w) }
    where
      other : IsIdle state j → (j == pair) ≡ false
      other idle = ⊎_elim
          (λ (e : (j == pair) ≡ true). absurd (both_ways _ (idle.nobody worker) (rw (eqb-true j pair e) holds)))
          (λ (e : (j == pair) ≡ false). e)
          (cases_Bool (j == pair))

  pub Good-decide : Good pairs (after_decide pairs state worker pair)
  Good-decide =
      record {
        decided = decide_decided;
        linked = decide_linked;
        quiet = decide_quiet;
        held = decide_held;
        waiting = λ j l u t. let e = decide_other j u in decide_waiting j e (g.waiting j l (sym (decision_other j e) ∙ u) t);
        untouched = decide_untouched;
      }

module _ (pairs : List Pair) (state : State) (worker pair : ℕ) (side : Side) (owes : state.owes worker pair side ≡ true) (g : Good pairs state) where
  owed : IsOwed state pair side
  owed = owed_once pairs state g worker pair side owes

  sourced : HasDecidedSource pairs state pair side
  sourced = owed_source pairs state g worker pair side owes

  is_a_link : is_link pairs pair side ≡ true
  is_a_link = rw sourced.is refl

  -- only this worker owes the link
  pub only_ower : (w : ℕ) → state.owes w pair side ≡ true → w ≡ worker
  only_ower w h = owed.alone w h ∙ sym (owed.alone worker owes)

  not_all_told : AllTold pairs state pair → ⊥
  not_all_told t = both_ways _ owed.untold (t side is_a_link)

  undecided_yet : state.decision pair ≡ None
  undecided_yet = go (state.decision pair) refl
    where
      go : (o : Option Bool) → state.decision pair ≡ o → state.decision pair ≡ None
      go None e = e
      go (Some fired) e = absurd (not_all_told (AllTold-from_left pairs state pair (g.decided pair fired e).all_told))

  -- a pair with a link that is not told is held by nobody
  pub held_by_nobody : (w : ℕ) → state.holds w pair ≡ false
  held_by_nobody w = ⊎_elim
      (λ (e : state.holds w pair ≡ true). absurd (not_all_told (AllTold-from_left pairs state pair (g.held w pair e).all_told)))
      (λ (e : state.holds w pair ≡ false). e)
      (cases_Bool (state.holds w pair))

  -- of another pair nothing changes
  left_other : (j : ℕ) → (j == pair) ≡ false → left_of pairs (after_tell pairs state worker pair side) j ≡ left_of pairs state j
  left_other j e = rw e refl

  is_this : (j : ℕ) (s : Side) → ((j == pair) && is_side s side) ≡ true → (j ≡ pair) × (s ≡ side)
  is_this j s e =
      let parts = and_parts _ _ e in
      (eqb-true _ _ parts.0, is_side-true s side parts.1)

  tell_decided : (j : ℕ) (fired : Bool) → state.decision j ≡ Some fired → IsDecidedWell pairs (after_tell pairs state worker pair side) j fired
  tell_decided j fired e =
      let h = g.decided j fired e in
      record { in_list = h.in_list; value = h.value; all_told = left_other j other ∙ h.all_told }
    where
      other : (j == pair) ≡ false
      other = ⊎_elim
          (λ (q : (j == pair) ≡ true). let wrong : Some fired ≡ None = sym e ∙ ap state.decision (eqb-true _ _ q) ∙ undecided_yet in cc)
          (λ (q : (j == pair) ≡ false). q)
          (cases_Bool (j == pair))

  owes_no_longer : (w j : ℕ) (s : Side) → ((j == pair) && is_side s side) ≡ true → (after_tell pairs state worker pair side).owes w j s ≡ false
  owes_no_longer w j s e = ⊎_elim
      (λ (q : state.owes w j s ≡ true). and_left _ _ (not_from_true _ (and_from _ _ (eq-eqb _ _ (only_ower w (rw (sym (is_this j s e).0, sym (is_this j s e).1) q))) e)))
      (λ (q : state.owes w j s ≡ false). and_right _ _ q)
      (cases_Bool (state.owes w j s))

  tell_linked_other : (j : ℕ) (s : Side) → ((j == pair) && is_side s side) ≡ false → IsSettled state j s ⊎ IsOwed state j s → IsSettled (after_tell pairs state worker pair side) j s ⊎ IsOwed (after_tell pairs state worker pair side) j s
  tell_linked_other j s e (inl h) =
      inl record { told = or_right _ _ h.told; nobody = λ w. and_right _ _ (h.nobody w) }
  tell_linked_other j s e (inr o) =
      inr record {
        untold = or_from _ _ e o.untold;
        worker = o.worker;
        owes = and_from _ _ (not_from_false _ (and_right _ _ e)) o.owes;
        alone = λ w h. o.alone w (and_parts _ _ h).1;
      }

  tell_linked : (j : ℕ) (s : Side) → HasDecidedSource pairs state j s → IsSettled (after_tell pairs state worker pair side) j s ⊎ IsOwed (after_tell pairs state worker pair side) j s
  tell_linked j s h = ⊎_elim
      (λ (e : ((j == pair) && is_side s side) ≡ true). inl record { told = or_left _ (state.told j s) e; nobody = λ w. owes_no_longer w j s e })
      (λ (e : ((j == pair) && is_side s side) ≡ false). tell_linked_other j s e (g.linked j s h))
      (cases_Bool ((j == pair) && is_side s side))

  tell_quiet : (j : ℕ) (s : Side) → ¬ HasDecidedSource pairs state j s → IsQuiet (after_tell pairs state worker pair side) j s
  tell_quiet j s n =
      let q = g.quiet j s n in
      record { untold = or_from _ _ other q.untold; nobody = λ w. and_right _ _ (q.nobody w) }
    where
      other : ((j == pair) && is_side s side) ≡ false
      other = ⊎_elim
          (λ (e : ((j == pair) && is_side s side) ≡ true). absurd (n (rw ((is_this j s e).0, (is_this j s e).1) sourced)))
          (λ (e : ((j == pair) && is_side s side) ≡ false). e)
          (cases_Bool ((j == pair) && is_side s side))

  -- the worker gets the pair
  record IsReceived (w j : ℕ) : Type 0 where
    by : w ≡ worker
    is : j ≡ pair
    all_told : left_of pairs (with_told state pair side) j ≡ 0

  received_from : (w j : ℕ) → ((w == worker) && ((j == pair) && (left_of pairs (with_told state pair side) j == 0))) ≡ true → IsReceived w j
  received_from w j e =
      let a = and_parts _ _ e in
      let b = and_parts _ _ a.1 in
      record { by = eqb-true _ _ a.0; is = eqb-true _ _ b.0; all_told = eqb-true _ _ b.1 }

  tell_held : (w j : ℕ) → (after_tell pairs state worker pair side).holds w j ≡ true → IsHeldWell pairs (after_tell pairs state worker pair side) w j
  tell_held w j e = ⊎_elim
      (λ new. first (received_from w j new))
      (λ (old : state.holds w j ≡ true). second old (g.held w j old))
      (or_cases _ _ e)
    where
      nobody_at : (v : ℕ) → j ≡ pair → state.holds v j ≡ true → ⊥
      nobody_at v q h = both_ways _ (held_by_nobody v) (rw q at h)

      first : IsReceived w j → IsHeldWell pairs (after_tell pairs state worker pair side) w j
      first h =
          record {
            in_list = rw h.is (link_inside pairs pair side sourced.source sourced.is);
            undecided = ap state.decision h.is ∙ undecided_yet;
            all_told = h.all_told;
            alone = λ v hv. ⊎_elim (λ new. (received_from v j new).by ∙ sym h.by) (λ old. absurd (nobody_at v h.is old)) (or_cases _ _ hv);
          }

      second : state.holds w j ≡ true → IsHeldWell pairs state w j → IsHeldWell pairs (after_tell pairs state worker pair side) w j
      second old h =
          record {
            in_list = h.in_list;
            undecided = h.undecided;
            all_told = left_other j other ∙ h.all_told;
            alone = λ v hv. ⊎_elim (λ new. absurd (nobody_at w (received_from v j new).is old)) (λ was. h.alone v was) (or_cases _ _ hv);
          }
        where
          other : (j == pair) ≡ false
          other = ⊎_elim
              (λ (q : (j == pair) ≡ true). absurd (nobody_at w (eqb-true _ _ q) old))
              (λ (q : (j == pair) ≡ false). q)
              (cases_Bool (j == pair))

  tell_waiting_other : (j : ℕ) → IsHeld state j ⊎ IsUntouched pairs state j → IsHeld (after_tell pairs state worker pair side) j ⊎ IsUntouched pairs (after_tell pairs state worker pair side) j
  tell_waiting_other j (inl h) = inl (h.0, or_right _ _ h.1)
  tell_waiting_other j (inr h) = inr record { no_link = h.no_link; untaken = h.untaken }

  tell_waiting : (j : ℕ) → j < length pairs → state.decision j ≡ None → left_of pairs (after_tell pairs state worker pair side) j ≡ 0 → IsHeld (after_tell pairs state worker pair side) j ⊎ IsUntouched pairs (after_tell pairs state worker pair side) j
  tell_waiting j l u t = ⊎_elim
      (λ (e : (j == pair) ≡ true). inl (worker, or_left _ (state.holds worker j) (and_from _ _ (eq-eqb worker worker refl) (and_from _ _ e (eq-eqb _ _ t)))))
      (λ (e : (j == pair) ≡ false). tell_waiting_other j (g.waiting j l u (sym (left_other j e) ∙ t)))
      (cases_Bool (j == pair))

  tell_untouched : (j : ℕ) → j < length pairs → IsUntouched pairs (after_tell pairs state worker pair side) j → IsIdle (after_tell pairs state worker pair side) j
  tell_untouched j l h =
      let idle = g.untouched j l record { no_link = h.no_link; untaken = h.untaken } in
      record { undecided = idle.undecided; nobody = λ w. or_from _ _ (and_right _ _ (and_left _ _ other)) (idle.nobody w) }
    where
      other : (j == pair) ≡ false
      other = ⊎_elim
          (λ (e : (j == pair) ≡ true). absurd (not_all_told (no_link_told pairs state pair (rw (eqb-true j pair e) at h.no_link))))
          (λ (e : (j == pair) ≡ false). e)
          (cases_Bool (j == pair))

  pub Good-tell : Good pairs (after_tell pairs state worker pair side)
  Good-tell =
      record {
        decided = tell_decided;
        linked = λ j s h. tell_linked j s record { source = h.source; is = h.is; decided = h.decided };
        quiet = λ j s n. tell_quiet j s (λ h. n record { source = h.source; is = h.is; decided = h.decided });
        held = tell_held;
        waiting = tell_waiting;
        untouched = tell_untouched;
      }

-- an event that is allowed keeps a good state good
pub Good-effect : (pairs : List Pair) (state : State) (event : Event) → IsAllowed state event → Good pairs state → Good pairs (effect pairs state event)
Good-effect pairs state (Take worker slice) h g = Good-take pairs state worker slice h g
Good-effect pairs state (Decide worker pair) h g = Good-decide pairs state worker pair h g
Good-effect pairs state (Tell worker pair side) h g = Good-tell pairs state worker pair side h g

-- so does a list of events, each enabled after those before it
pub Good-effects : (pairs : List Pair) (workers : ℕ) (state : State) (events : List Event) → AreEnabled pairs workers state events → Good pairs state → Good pairs (effects pairs state events)
Good-effects pairs workers state [] h g = g
Good-effects pairs workers state (e ∷ events) h g =
    Good-effects pairs workers (effect pairs state e) events h.1 (Good-effect pairs state e h.0.allowed g)
