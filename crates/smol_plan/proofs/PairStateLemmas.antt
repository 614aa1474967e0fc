-- Each step on the standings is the event's effect on the state.
use Rattle.std.proofs.Common.{◌≡◌, ℕ, ◌<◌, ◌≤◌, Bool, true, false, not, ◌&&◌, ◌||◌, ◌==◌, List, length, get_or, set, get_or-set_same, get_or-set_other, Option, Some, None, ◌⊎◌, refl, sym, ◌∙◌, ap, inl, inr, ⊎_elim, arith, if◌then◌else◌}
use Rattle.std.specs.Option.{is_some}
use Rattle.std.proofs.lemmas.List.{get_or_past}
use Rattle.std.proofs.lemmas.Bool.{cases_eq, cases_lt, lt-ltb, le-ltb, and_parts, or_right, eq-eqb, eqb-true, ne_eqb, false_from_ne_true, false≢true, both_ways}
use Rattle.smol_plan.specs.declared.pair.Pair.{Pair}
use Rattle.smol_plan.specs.declared.pair.Side.{Side}
use Rattle.smol_plan.specs.declared.pair.Side.TheVariants.{Low, High}
use Rattle.smol_plan.specs.declared.decision.Decision.{Decision}
use Rattle.smol_plan.specs.declared.pair_state.PairState.{PairState}
use Rattle.smol_plan.specs.Pair.{is_side, molecule_at}
use Rattle.smol_plan.specs.Matching.{fires}
use Rattle.smol_plan.specs.Links.{comes_by, is_number, comes_from}
use Rattle.smol_plan.specs.Machine.{slice_of, has_no_link, left_of, is_decided, is_beaten, after_take, after_decide, with_told, after_tell}
use Rattle.smol_plan.specs.Good.{Good, HasDecidedSource}
use Rattle.smol_plan.specs.PairState.{fresh, told_of, ower_of, set_told, set_ower, fired_of}
use Rattle.smol_plan.specs.Board.{standing_at, state_from, after_slice, after_owing, untold_count, after_telling, SourceTells, SourcesTell}
use Rattle.smol_plan.specs.Decision.{TellsTaken}
use Rattle.smol_plan.proofs.SideLemmas.{is_side-true, is_side-refl}
use Rattle.smol_plan.proofs.LinkLemmas.{source_tells, link_inside}
use Rattle.smol_plan.proofs.GoodLemmas.{AllTold-from_left, on_a_side, told_source, owed_source, is_beaten-fires}
use Rattle.smol_plan.proofs.GoodKept.{is_number_from, held_by_nobody, only_ower}
use Rattle.smol_plan.proofs.StateLemmas.{State-same}

-- past the end of the list there is nothing
standing_past : (standings : List PairState) (j : ℕ) → length standings ≤ j → standing_at standings j ≡ fresh
standing_past standings j l = get_or_past standings j fresh l

eqb_swap : (a b : ℕ) → (a == b) ≡ (b == a)
eqb_swap a b = ⊎_elim
    (λ (e : a ≡ b). eq-eqb a b e ∙ sym (eq-eqb b a (sym e)))
    (λ (n : a ≡ b → ⊥). ne_eqb a b n ∙ sym (ne_eqb b a (λ e. n (sym e))))
    (cases_eq a b)

-- what is tested of a number or of none
is_number-choice : (b : Bool) (w worker : ℕ) (o : Option ℕ) → (b ≡ true → is_number w o ≡ false) → is_number w (if b then Some worker else o) ≡ (((w == worker) && b) || is_number w o)
is_number-choice true w worker o h = rw (h refl) (eqb_swap worker w ∙ pad (w == worker))
  where
    pad : (x : Bool) → x ≡ ((x && true) || false)
    pad true = refl
    pad false = refl
is_number-choice false w worker o h = pad (w == worker) (is_number w o)
  where
    pad : (x y : Bool) → y ≡ ((x && false) || y)
    pad true y = refl
    pad false y = refl

with_holder-decision : (b : Bool) (s : PairState) (o : Option ℕ) → (if b then record s { holder = o } else s).decision ≡ s.decision
with_holder-decision true s o = refl
with_holder-decision false s o = refl

with_holder-told : (b : Bool) (s : PairState) (o : Option ℕ) (side : Side) → told_of (if b then record s { holder = o } else s) side ≡ told_of s side
with_holder-told true s o Low = refl
with_holder-told true s o High = refl
with_holder-told false s o side = refl

with_holder-ower : (b : Bool) (s : PairState) (o : Option ℕ) (side : Side) → ower_of (if b then record s { holder = o } else s) side ≡ ower_of s side
with_holder-ower true s o Low = refl
with_holder-ower true s o High = refl
with_holder-ower false s o side = refl

with_holder-holder : (b : Bool) (s : PairState) (o : Option ℕ) → (if b then record s { holder = o } else s).holder ≡ (if b then o else s.holder)
with_holder-holder true s o = refl
with_holder-holder false s o = refl

module _ (pairs : List Pair) (slices : List Bool) (standings next : List PairState) (worker slice : ℕ) (one_each : length standings ≡ length pairs) (as_many : length next ≡ length standings) (slice_in : slice < length slices) (untaken : get_or slices slice false ≡ false) (g : Good pairs (state_from slices standings)) (given : (j : ℕ) → j < length pairs → standing_at next j ≡ after_slice pairs worker slice j (standing_at standings j)) where
  -- what is the same of each standing
  take_same : {A : Type 0} (f : PairState → A) → ((j : ℕ) → f (after_slice pairs worker slice j (standing_at standings j)) ≡ f (standing_at standings j)) → (j : ℕ) → f (standing_at next j) ≡ f (standing_at standings j)
  take_same f same j = ⊎_elim
      (λ (l : j < length pairs). ap f (given j l) ∙ same j)
      (λ (l : length pairs ≤ j). ap f (standing_past next j (omega arith) ∙ sym (standing_past standings j (omega arith))))
      (cases_lt j (length pairs))

  take_slices : (k : ℕ) → get_or (set slices slice true) k false ≡ ((k == slice) || get_or slices k false)
  take_slices k = ⊎_elim
      (λ (e : k ≡ slice). rw (e, eq-eqb slice slice refl) (get_or-set_same slices slice true false slice_in))
      (λ (n : k ≡ slice → ⊥). rw (ne_eqb k slice n) (get_or-set_other slices slice k true false n))
      (cases_eq k slice)

  take_holds : (w j : ℕ) → is_number w (standing_at next j).holder ≡ (after_take pairs (state_from slices standings) worker slice).holds w j
  take_holds w j = ⊎_elim
      (λ (l : j < length pairs). rw (given j l, with_holder-holder ((slice_of j == slice) && has_no_link pairs j) (standing_at standings j) (Some worker), lt-ltb j (length pairs) l) (is_number-choice ((slice_of j == slice) && has_no_link pairs j) w worker (standing_at standings j).holder (λ e. idle l (and_parts _ _ e).0 (and_parts _ _ e).1)))
      (λ (l : length pairs ≤ j). rw (standing_past next j (omega arith), standing_past standings j (omega arith), le-ltb j (length pairs) l) (nothing (w == worker)))
      (cases_lt j (length pairs))
    where
      nothing : (x : Bool) → false ≡ ((x && false) || false)
      nothing true = refl
      nothing false = refl

      idle : j < length pairs → (slice_of j == slice) ≡ true → has_no_link pairs j ≡ true → is_number w (standing_at standings j).holder ≡ false
      idle l e n =
          (g.untouched j l record { no_link = n; untaken = rw (eqb-true (slice_of j) slice e) untaken }).nobody w

  -- the slice is marked, and its pairs are given
  pub take_is : state_from (set slices slice true) next ≡ after_take pairs (state_from slices standings) worker slice
  take_is =
      State-same _ _ take_slices (take_same (λ s. fired_of s.decision) (λ j. ap fired_of (with_holder-decision _ (standing_at standings j) (Some worker)))) (λ j side. take_same (λ s. told_of s side) (λ k. with_holder-told _ (standing_at standings k) (Some worker) side) j) take_holds (λ w j side. take_same (λ s. is_number w (ower_of s side)) (λ k. ap (is_number w) (with_holder-ower _ (standing_at standings k) (Some worker) side)) j)

  pub take_decisions : (j : ℕ) → (standing_at next j).decision ≡ (standing_at standings j).decision
  take_decisions =
      take_same (λ s. s.decision) (λ j. with_holder-decision _ (standing_at standings j) (Some worker))

-- what owing leaves of a standing, by whether each of its links comes from the pair
owing : Bool → Bool → PairState → ℕ → PairState
owing low high s worker =
    let one = if low then set_ower s Low (Some worker) else s in
    if high then set_ower one High (Some worker) else one

owing-decision : (a b : Bool) (s : PairState) (w : ℕ) → (owing a b s w).decision ≡ s.decision
unfolding owing
owing-decision true true s w = refl
owing-decision true false s w = refl
owing-decision false true s w = refl
owing-decision false false s w = refl

owing-holder : (a b : Bool) (s : PairState) (w : ℕ) → (owing a b s w).holder ≡ s.holder
unfolding owing
owing-holder true true s w = refl
owing-holder true false s w = refl
owing-holder false true s w = refl
owing-holder false false s w = refl

owing-told : (a b : Bool) (s : PairState) (w : ℕ) (side : Side) → told_of (owing a b s w) side ≡ told_of s side
unfolding owing
owing-told true true s w Low = refl
owing-told true true s w High = refl
owing-told true false s w Low = refl
owing-told true false s w High = refl
owing-told false true s w Low = refl
owing-told false true s w High = refl
owing-told false false s w side = refl

owing-low : (a b : Bool) (s : PairState) (w : ℕ) → ower_of (owing a b s w) Low ≡ (if a then Some w else ower_of s Low)
unfolding owing
owing-low true true s w = refl
owing-low true false s w = refl
owing-low false true s w = refl
owing-low false false s w = refl

owing-high : (a b : Bool) (s : PairState) (w : ℕ) → ower_of (owing a b s w) High ≡ (if b then Some w else ower_of s High)
unfolding owing
owing-high true true s w = refl
owing-high true false s w = refl
owing-high false true s w = refl
owing-high false false s w = refl

-- after owing by both molecules of a pair
abbrev pub after_both : List Pair → ℕ → ℕ → ℕ → PairState → PairState
after_both pairs pair worker k s =
    after_owing pairs pair High worker k (after_owing pairs pair Low worker k s)

after_both-decision : (pairs : List Pair) (pair worker k : ℕ) (s : PairState) → (after_both pairs pair worker k s).decision ≡ s.decision
unfolding owing
after_both-decision pairs pair worker k s =
    owing-decision (comes_by pairs pair High k Low) (comes_by pairs pair High k High) (after_owing pairs pair Low worker k s) worker ∙ owing-decision (comes_by pairs pair Low k Low) (comes_by pairs pair Low k High) s worker

after_both-holder : (pairs : List Pair) (pair worker k : ℕ) (s : PairState) → (after_both pairs pair worker k s).holder ≡ s.holder
unfolding owing
after_both-holder pairs pair worker k s =
    owing-holder (comes_by pairs pair High k Low) (comes_by pairs pair High k High) (after_owing pairs pair Low worker k s) worker ∙ owing-holder (comes_by pairs pair Low k Low) (comes_by pairs pair Low k High) s worker

after_both-told : (pairs : List Pair) (pair worker k : ℕ) (s : PairState) (side : Side) → told_of (after_both pairs pair worker k s) side ≡ told_of s side
unfolding owing
after_both-told pairs pair worker k s side =
    owing-told (comes_by pairs pair High k Low) (comes_by pairs pair High k High) (after_owing pairs pair Low worker k s) worker side ∙ owing-told (comes_by pairs pair Low k Low) (comes_by pairs pair Low k High) s worker side

either_choice : (a b : Bool) (w : ℕ) (o : Option ℕ) → (if b then Some w else (if a then Some w else o)) ≡ (if a || b then Some w else o)
either_choice true true w o = refl
either_choice true false w o = refl
either_choice false true w o = refl
either_choice false false w o = refl

after_both-ower : (pairs : List Pair) (pair worker k : ℕ) (s : PairState) (side : Side) → ower_of (after_both pairs pair worker k s) side ≡ (if comes_by pairs pair Low k side || comes_by pairs pair High k side then Some worker else ower_of s side)
unfolding owing
after_both-ower pairs pair worker k s Low =
    owing-low (comes_by pairs pair High k Low) (comes_by pairs pair High k High) (after_owing pairs pair Low worker k s) worker ∙ ap (λ o. if comes_by pairs pair High k Low then Some worker else o) (owing-low (comes_by pairs pair Low k Low) (comes_by pairs pair Low k High) s worker) ∙ either_choice (comes_by pairs pair Low k Low) (comes_by pairs pair High k Low) worker (ower_of s Low)
after_both-ower pairs pair worker k s High =
    owing-high (comes_by pairs pair High k Low) (comes_by pairs pair High k High) (after_owing pairs pair Low worker k s) worker ∙ ap (λ o. if comes_by pairs pair High k High then Some worker else o) (owing-high (comes_by pairs pair Low k Low) (comes_by pairs pair Low k High) s worker) ∙ either_choice (comes_by pairs pair Low k High) (comes_by pairs pair High k High) worker (ower_of s High)

-- a link that comes from a pair comes by one of its molecules
comes_by_either : (pairs : List Pair) (pair k : ℕ) (side : Side) → (comes_by pairs pair Low k side || comes_by pairs pair High k side) ≡ comes_from pairs pair k side
comes_by_either pairs pair k side = go (comes_from pairs pair k side) refl
  where
    go : (b : Bool) → comes_from pairs pair k side ≡ b → (comes_by pairs pair Low k side || comes_by pairs pair High k side) ≡ comes_from pairs pair k side
    go false e = rw e refl
    go true e = rw e (by_side (on_a_side pairs (molecule_at pairs k side) pair (source_tells pairs k side pair (is_number_from pair _ e)).has))
      where
        by_side : (t : Side) × (molecule_at pairs pair t ≡ molecule_at pairs k side) → ((molecule_at pairs k side == molecule_at pairs pair Low) || (molecule_at pairs k side == molecule_at pairs pair High)) ≡ true
        by_side (Low, h) = rw (eq-eqb _ _ (sym h)) refl
        by_side (High, h) = or_right _ _ (eq-eqb _ _ (sym h))

module _ (pairs : List Pair) (slices : List Bool) (standings next : List PairState) (worker pair : ℕ) (d : Decision) (one_each : length standings ≡ length pairs) (as_many : length next ≡ length standings) (g : Good pairs (state_from slices standings)) (holds : is_number worker (standing_at standings pair).holder ≡ true) (fired : d.fired ≡ fires pairs pair) (given : (j : ℕ) → j < length pairs → standing_at next j ≡ after_both pairs pair worker j (standing_at (set standings pair (record (standing_at standings pair) { decision = Some d; holder = None })) j)) where
  pair_in : pair < length pairs
  pair_in = (g.held worker pair holds).in_list

  -- the standing of the pair, and that of another
  decide_this : (j : ℕ) → j ≡ pair → standing_at (set standings pair (record (standing_at standings pair) { decision = Some d; holder = None })) j ≡ record (standing_at standings pair) { decision = Some d; holder = None }
  decide_this j e = rw e (get_or-set_same standings pair _ fresh (omega (arith, pair_in, one_each)))

  decide_other : (j : ℕ) → (j ≡ pair → ⊥) → standing_at (set standings pair (record (standing_at standings pair) { decision = Some d; holder = None })) j ≡ standing_at standings j
  decide_other j n = get_or-set_other standings pair j _ fresh n

  -- past the end nothing changes
  decide_past : {A : Type 0} (f : PairState → A) (j : ℕ) → length pairs ≤ j → f (standing_at next j) ≡ f (standing_at standings j)
  decide_past f j l =
      ap f (standing_past next j (omega arith) ∙ sym (standing_past standings j (omega arith)))

  decided_value : not (is_beaten pairs (state_from slices standings) pair) ≡ d.fired
  decided_value =
      is_beaten-fires pairs (state_from slices standings) g pair pair_in (AllTold-from_left pairs (state_from slices standings) pair (g.held worker pair holds).all_told) ∙ sym fired

  decide_decision : (j : ℕ) → fired_of (standing_at next j).decision ≡ (after_decide pairs (state_from slices standings) worker pair).decision j
  decide_decision j = ⊎_elim
      (λ (l : j < length pairs). ap fired_of (ap (λ s. s.decision) (given j l) ∙ after_both-decision pairs pair worker j _) ∙ inside)
      (λ (l : length pairs ≤ j). decide_past (λ s. fired_of s.decision) j l ∙ rw (ne_eqb j pair (λ e. omega (arith, pair_in))) refl)
      (cases_lt j (length pairs))
    where
      inside : fired_of (standing_at (set standings pair (record (standing_at standings pair) { decision = Some d; holder = None })) j).decision ≡ (after_decide pairs (state_from slices standings) worker pair).decision j
      inside = ⊎_elim
          (λ (e : j ≡ pair). ap (λ s. fired_of s.decision) (decide_this j e) ∙ rw (eq-eqb j pair e, decided_value) refl)
          (λ (n : j ≡ pair → ⊥). ap (λ s. fired_of s.decision) (decide_other j n) ∙ rw (ne_eqb j pair n) refl)
          (cases_eq j pair)

  decide_told : (j : ℕ) (side : Side) → told_of (standing_at next j) side ≡ told_of (standing_at standings j) side
  decide_told j side = ⊎_elim
      (λ (l : j < length pairs). ap (λ s. told_of s side) (given j l) ∙ after_both-told pairs pair worker j _ side ∙ inside)
      (λ (l : length pairs ≤ j). decide_past (λ s. told_of s side) j l)
      (cases_lt j (length pairs))
    where
      same : (t : Side) → told_of (record (standing_at standings pair) { decision = Some d; holder = None }) t ≡ told_of (standing_at standings pair) t
      same Low = refl
      same High = refl

      inside : told_of (standing_at (set standings pair (record (standing_at standings pair) { decision = Some d; holder = None })) j) side ≡ told_of (standing_at standings j) side
      inside = ⊎_elim
          (λ (e : j ≡ pair). ap (λ s. told_of s side) (decide_this j e) ∙ same side ∙ ap (λ k. told_of (standing_at standings k) side) (sym e))
          (λ (n : j ≡ pair → ⊥). ap (λ s. told_of s side) (decide_other j n))
          (cases_eq j pair)

  decide_holds : (w j : ℕ) → is_number w (standing_at next j).holder ≡ (after_decide pairs (state_from slices standings) worker pair).holds w j
  decide_holds w j = ⊎_elim
      (λ (l : j < length pairs). ap (is_number w) (ap (λ s. s.holder) (given j l) ∙ after_both-holder pairs pair worker j _) ∙ inside)
      (λ (l : length pairs ≤ j). decide_past (λ s. is_number w s.holder) j l ∙ rw (ne_eqb j pair (λ e. omega (arith, pair_in))) (other (w == worker) _))
      (cases_lt j (length pairs))
    where
      other : (x y : Bool) → y ≡ (not (x && false) && y)
      other true y = refl
      other false y = refl

      nobody : (x : Bool) → (w == worker) ≡ x → false ≡ (not ((w == worker) && true) && is_number w (standing_at standings pair).holder)
      nobody true e = rw e refl
      nobody false e =
          rw (e, false_from_ne_true (is_number w (standing_at standings pair).holder) (λ h. both_ways _ e (eq-eqb w worker ((g.held worker pair holds).alone w h)))) refl

      inside : is_number w (standing_at (set standings pair (record (standing_at standings pair) { decision = Some d; holder = None })) j).holder ≡ (after_decide pairs (state_from slices standings) worker pair).holds w j
      inside = ⊎_elim
          (λ (e : j ≡ pair). ap (λ s. is_number w s.holder) (decide_this j e) ∙ rw (e, eq-eqb pair pair refl) (nobody (w == worker) refl))
          (λ (n : j ≡ pair → ⊥). ap (λ s. is_number w s.holder) (decide_other j n) ∙ rw (ne_eqb j pair n) (other (w == worker) _))
          (cases_eq j pair)

  decide_owes : (w j : ℕ) (side : Side) → is_number w (ower_of (standing_at next j) side) ≡ (after_decide pairs (state_from slices standings) worker pair).owes w j side
  decide_owes w j side = ⊎_elim
      (λ (l : j < length pairs). ap (is_number w) (ap (λ s. ower_of s side) (given j l) ∙ after_both-ower pairs pair worker j _ side ∙ chosen) ∙ is_number-choice (comes_from pairs pair j side) w worker (ower_of (standing_at standings j) side) quiet)
      (λ (l : length pairs ≤ j). decide_past (λ s. is_number w (ower_of s side)) j l ∙ rw (false_from_ne_true (comes_from pairs pair j side) (λ e. absurd (beyond l e))) (other (w == worker) _))
      (cases_lt j (length pairs))
    where
      other : (x y : Bool) → y ≡ ((x && false) || y)
      other true y = refl
      other false y = refl

      beyond : length pairs ≤ j → comes_from pairs pair j side ≡ true → ⊥
      beyond l e = omega (arith, link_inside pairs j side pair (is_number_from pair _ e))

      undecided : is_decided (state_from slices standings) pair ≡ false
      undecided = rw (g.held worker pair holds).undecided refl

      quiet : comes_from pairs pair j side ≡ true → is_number w (ower_of (standing_at standings j) side) ≡ false
      quiet e =
          (g.quiet j side (λ h. let both : Some h.source ≡ Some pair = sym h.is ∙ is_number_from pair _ e in let same : h.source ≡ pair = cc in both_ways _ undecided (rw same at h.decided))).nobody w

      same : (t : Side) → ower_of (record (standing_at standings pair) { decision = Some d; holder = None }) t ≡ ower_of (standing_at standings pair) t
      same Low = refl
      same High = refl

      inside : ower_of (standing_at (set standings pair (record (standing_at standings pair) { decision = Some d; holder = None })) j) side ≡ ower_of (standing_at standings j) side
      inside = ⊎_elim
          (λ (e : j ≡ pair). ap (λ s. ower_of s side) (decide_this j e) ∙ same side ∙ ap (λ k. ower_of (standing_at standings k) side) (sym e))
          (λ (n : j ≡ pair → ⊥). ap (λ s. ower_of s side) (decide_other j n))
          (cases_eq j pair)

      chosen : (if comes_by pairs pair Low j side || comes_by pairs pair High j side then Some worker else ower_of (standing_at (set standings pair (record (standing_at standings pair) { decision = Some d; holder = None })) j) side) ≡ (if comes_from pairs pair j side then Some worker else ower_of (standing_at standings j) side)
      chosen = rw (comes_by_either pairs pair j side, inside) refl

  -- the pair is decided, and the links that come from it are owed
  pub decide_is : state_from slices next ≡ after_decide pairs (state_from slices standings) worker pair
  decide_is =
      State-same _ _ (λ k. refl) decide_decision decide_told decide_holds decide_owes

  pub decide_decisions : (j : ℕ) (x : Decision) → (standing_at next j).decision ≡ Some x → ((j ≡ pair) × (x ≡ d)) ⊎ ((standing_at standings j).decision ≡ Some x)
  decide_decisions j x e = ⊎_elim
      (λ (l : j < length pairs). inside (sym (after_both-decision pairs pair worker j _) ∙ sym (ap (λ s. s.decision) (given j l)) ∙ e))
      (λ (l : length pairs ≤ j). inr (sym (decide_past (λ s. s.decision) j l) ∙ e))
      (cases_lt j (length pairs))
    where
      inside : (standing_at (set standings pair (record (standing_at standings pair) { decision = Some d; holder = None })) j).decision ≡ Some x → ((j ≡ pair) × (x ≡ d)) ⊎ ((standing_at standings j).decision ≡ Some x)
      inside h = ⊎_elim
          (λ (q : j ≡ pair). let both : Some d ≡ Some x = sym (ap (λ s. s.decision) (decide_this j q)) ∙ h in inl (q, cc))
          (λ (n : j ≡ pair → ⊥). inr (sym (ap (λ s. s.decision) (decide_other j n)) ∙ h))
          (cases_eq j pair)

-- a link told and no longer owed
told_of-set_told : (s : PairState) (t side : Side) → told_of (set_told s side) t ≡ (is_side t side || told_of s t)
told_of-set_told s Low Low = refl
told_of-set_told s Low High = refl
told_of-set_told s High Low = refl
told_of-set_told s High High = refl

told_of-set_ower : (s : PairState) (t side : Side) (o : Option ℕ) → told_of (set_ower s side o) t ≡ told_of s t
told_of-set_ower s Low Low o = refl
told_of-set_ower s Low High o = refl
told_of-set_ower s High Low o = refl
told_of-set_ower s High High o = refl

ower_of-telling : (s : PairState) (t side : Side) → ower_of (set_ower (set_told s side) side None) t ≡ (if is_side t side then None else ower_of s t)
ower_of-telling s Low Low = refl
ower_of-telling s Low High = refl
ower_of-telling s High Low = refl
ower_of-telling s High High = refl

decision-telling : (s : PairState) (side : Side) → (set_ower (set_told s side) side None).decision ≡ s.decision
decision-telling s Low = refl
decision-telling s High = refl

holder-telling : (s : PairState) (side : Side) → (set_ower (set_told s side) side None).holder ≡ s.holder
holder-telling s Low = refl
holder-telling s High = refl

module _ (pairs : List Pair) (slices : List Bool) (standings : List PairState) (worker pair : ℕ) (side : Side) (one_each : length standings ≡ length pairs) (g : Good pairs (state_from slices standings)) (owes : is_number worker (ower_of (standing_at standings pair) side) ≡ true) where
  tell_source : HasDecidedSource pairs (state_from slices standings) pair side
  tell_source = owed_source pairs (state_from slices standings) g worker pair side owes

  tell_in : pair < length pairs
  tell_in = link_inside pairs pair side tell_source.source tell_source.is

  -- the standing of the pair, and that of another
  tell_this : (j : ℕ) → j ≡ pair → standing_at (set standings pair (after_telling pairs pair side worker (standing_at standings pair))) j ≡ after_telling pairs pair side worker (standing_at standings pair)
  tell_this j e = rw e (get_or-set_same standings pair _ fresh (omega (arith, tell_in, one_each)))

  tell_other : (j : ℕ) → (j ≡ pair → ⊥) → standing_at (set standings pair (after_telling pairs pair side worker (standing_at standings pair))) j ≡ standing_at standings j
  tell_other j n = get_or-set_other standings pair j _ fresh n

  -- of the pair and of another, a part of the standing
  tell_part : {A : Type 0} (f : PairState → A) (r : ℕ → A) → f (after_telling pairs pair side worker (standing_at standings pair)) ≡ r pair → ((j : ℕ) → (j == pair) ≡ false → f (standing_at standings j) ≡ r j) → (j : ℕ) → f (standing_at (set standings pair (after_telling pairs pair side worker (standing_at standings pair))) j) ≡ r j
  tell_part f r here elsewhere j = ⊎_elim
      (λ (e : j ≡ pair). ap f (tell_this j e) ∙ here ∙ ap r (sym e))
      (λ (n : j ≡ pair → ⊥). ap f (tell_other j n) ∙ elsewhere j (ne_eqb j pair n))
      (cases_eq j pair)

  -- the counter on the state is the count on the standing
  untold_same : left_of pairs (with_told (state_from slices standings) pair side) pair ≡ untold_count pairs pair (set_ower (set_told (standing_at standings pair) side) side None)
  untold_same =
      rw (told_of-set_ower (set_told (standing_at standings pair) side) Low side None, told_of-set_ower (set_told (standing_at standings pair) side) High side None, told_of-set_told (standing_at standings pair) Low side, told_of-set_told (standing_at standings pair) High side, eq-eqb pair pair refl) refl

  tell_decision : (j : ℕ) → fired_of (standing_at (set standings pair (after_telling pairs pair side worker (standing_at standings pair))) j).decision ≡ fired_of (standing_at standings j).decision
  tell_decision =
      tell_part (λ s. fired_of s.decision) (λ j. fired_of (standing_at standings j).decision) (ap fired_of (with_holder-decision _ (set_ower (set_told (standing_at standings pair) side) side None) (Some worker) ∙ decision-telling (standing_at standings pair) side)) (λ j e. refl)

  tell_told : (j : ℕ) (t : Side) → told_of (standing_at (set standings pair (after_telling pairs pair side worker (standing_at standings pair))) j) t ≡ (after_tell pairs (state_from slices standings) worker pair side).told j t
  tell_told j t =
      tell_part (λ s. told_of s t) (λ k. (after_tell pairs (state_from slices standings) worker pair side).told k t) (with_holder-told _ (set_ower (set_told (standing_at standings pair) side) side None) (Some worker) t ∙ told_of-set_ower (set_told (standing_at standings pair) side) t side None ∙ told_of-set_told (standing_at standings pair) t side ∙ rw (eq-eqb pair pair refl) refl) (λ k e. rw e refl) j

  nobody_holds : (w : ℕ) → is_number w (standing_at standings pair).holder ≡ false
  nobody_holds w = held_by_nobody pairs (state_from slices standings) worker pair side owes g w

  tell_holds : (w j : ℕ) → is_number w (standing_at (set standings pair (after_telling pairs pair side worker (standing_at standings pair))) j).holder ≡ (after_tell pairs (state_from slices standings) worker pair side).holds w j
  tell_holds w j =
      tell_part (λ s. is_number w s.holder) (λ k. (after_tell pairs (state_from slices standings) worker pair side).holds w k) here elsewhere j
    where
      elsewhere : (k : ℕ) → (k == pair) ≡ false → is_number w (standing_at standings k).holder ≡ (after_tell pairs (state_from slices standings) worker pair side).holds w k
      elsewhere k e = rw e (pad (w == worker) _)
        where
          pad : (x y : Bool) → y ≡ ((x && false) || y)
          pad true y = refl
          pad false y = refl

      here : is_number w (after_telling pairs pair side worker (standing_at standings pair)).holder ≡ (after_tell pairs (state_from slices standings) worker pair side).holds w pair
      here =
          ap (is_number w) (with_holder-holder _ (set_ower (set_told (standing_at standings pair) side) side None) (Some worker) ∙ ap (λ o. if untold_count pairs pair (set_ower (set_told (standing_at standings pair) side) side None) == 0 then Some worker else o) (holder-telling (standing_at standings pair) side)) ∙ is_number-choice (untold_count pairs pair (set_ower (set_told (standing_at standings pair) side) side None) == 0) w worker (standing_at standings pair).holder (λ _. nobody_holds w) ∙ rw (untold_same, eq-eqb pair pair refl) refl

  tell_owes : (w j : ℕ) (t : Side) → is_number w (ower_of (standing_at (set standings pair (after_telling pairs pair side worker (standing_at standings pair))) j) t) ≡ (after_tell pairs (state_from slices standings) worker pair side).owes w j t
  tell_owes w j t =
      tell_part (λ s. is_number w (ower_of s t)) (λ k. (after_tell pairs (state_from slices standings) worker pair side).owes w k t) here elsewhere j
    where
      elsewhere : (k : ℕ) → (k == pair) ≡ false → is_number w (ower_of (standing_at standings k) t) ≡ (after_tell pairs (state_from slices standings) worker pair side).owes w k t
      elsewhere k e = rw e (pad (w == worker) _)
        where
          pad : (x y : Bool) → y ≡ (not (x && false) && y)
          pad true y = refl
          pad false y = refl

      only : (x : Bool) → (w == worker) ≡ x → false ≡ (not ((w == worker) && true) && is_number w (ower_of (standing_at standings pair) side))
      only true e = rw e refl
      only false e =
          rw (e, false_from_ne_true (is_number w (ower_of (standing_at standings pair) side)) (λ h. both_ways _ e (eq-eqb w worker (only_ower pairs (state_from slices standings) worker pair side owes g w h)))) refl

      at_side : (b : Bool) → is_side t side ≡ b → is_number w (if is_side t side then None else ower_of (standing_at standings pair) t) ≡ (not ((w == worker) && (true && is_side t side)) && is_number w (ower_of (standing_at standings pair) t))
      at_side true e = rw (is_side-true t side e, is_side-refl side) (only (w == worker) refl)
      at_side false e = rw e (pad (w == worker) _)
        where
          pad : (x y : Bool) → y ≡ (not (x && false) && y)
          pad true y = refl
          pad false y = refl

      here : is_number w (ower_of (after_telling pairs pair side worker (standing_at standings pair)) t) ≡ (after_tell pairs (state_from slices standings) worker pair side).owes w pair t
      here =
          ap (is_number w) (with_holder-ower _ (set_ower (set_told (standing_at standings pair) side) side None) (Some worker) t ∙ ower_of-telling (standing_at standings pair) t side) ∙ rw (eq-eqb pair pair refl) (at_side (is_side t side) refl)

  -- the link is told and no longer owed, and the last one told gives the pair
  pub tell_is : state_from slices (set standings pair (after_telling pairs pair side worker (standing_at standings pair))) ≡ after_tell pairs (state_from slices standings) worker pair side
  tell_is =
      State-same _ _ (λ k. refl) tell_decision tell_told tell_holds tell_owes

  pub tell_decisions : (j : ℕ) → (standing_at (set standings pair (after_telling pairs pair side worker (standing_at standings pair))) j).decision ≡ (standing_at standings j).decision
  tell_decisions =
      tell_part (λ s. s.decision) (λ j. (standing_at standings j).decision) (with_holder-decision _ (set_ower (set_told (standing_at standings pair) side) side None) (Some worker) ∙ decision-telling (standing_at standings pair) side) (λ j e. refl)

-- the sources of a held pair are decided
pub SourcesTell-held : (pairs : List Pair) (slices : List Bool) (standings : List PairState) (w pair : ℕ) → Good pairs (state_from slices standings) → is_number w (standing_at standings pair).holder ≡ true → ((j : ℕ) (d : Decision) → (standing_at standings j).decision ≡ Some d → TellsTaken pairs j d) → SourcesTell pairs standings pair
SourcesTell-held pairs slices standings w pair g h tells side i e =
    at_source (told_source pairs (state_from slices standings) g pair side (AllTold-from_left pairs (state_from slices standings) pair (g.held w pair h).all_told side (rw e refl)))
  where
    found : (o : Option Decision) → (standing_at standings i).decision ≡ o → is_some (fired_of o) ≡ true → SourceTells pairs standings i
    found None is d = absurd (false≢true d)
    found (Some x) is d = record { decision = x; is = is; tells = tells i x is }

    at_source : HasDecidedSource pairs (state_from slices standings) pair side → SourceTells pairs standings i
    at_source src =
        let both : Some src.source ≡ Some i = sym src.is ∙ e in
        let same : src.source ≡ i = cc in
        found (standing_at standings i).decision refl (rw same at src.decided)
