-- A tell of an owed link keeps the rule and is the machine's event.
use Rattle.std.proofs.Common.{◌≡◌, ℕ, ◌+◌, ◌-◌, ◌%◌, ◌^◌, ◌<◌, ◌≤◌, Bool, true, false, not, ◌&&◌, ◌||◌, ◌==◌, nat_lt, List, ◌∷◌, length, get_or, set, get_or-set_same, get_or-set_other, length-set, Option, Some, None, refl, sym, ◌∙◌, ap, subst, ⊎_elim, arith, if◌then◌else◌}
use Rattle.std.specs.Option.{is_some}
use Rattle.std.proofs.lemmas.Bool.{cases_eq, cases_lt, le-ltb, cases_Bool, eq-eqb, ne_eqb, eqb-true, and_parts, and_from, or_left, both_ways, false_from_ne_true}
use mathlib.Core.Option as maybe
use lib.ListN.{get_elem?}
use Rattle.atomic_table.specs.Table.{step, keeps, stepped, Allows}
use Rattle.smol_plan.specs.declared.pair.Pair.{Pair}
use Rattle.smol_plan.specs.declared.pair.Side.{Side}
use Rattle.smol_plan.specs.declared.pair.Side.TheVariants.{Low, High}
use Rattle.smol_plan.specs.declared.event.Event.TheVariants.{Tell}
use Rattle.smol_plan.specs.Pair.{is_side}
use Rattle.smol_plan.specs.Links.{source_of, is_link, any_below}
use Rattle.smol_plan.specs.Machine.{State, slice_count, left_of, with_told, after_tell}
use Rattle.smol_plan.specs.PairState.{fired_of}
use Rattle.smol_plan.specs.Good.{Good, IsOwed, HasDecidedSource}
use Rattle.smol_plan.proofs.BelowLemmas.{any_below_same, any_below_gap}
use Rattle.smol_plan.proofs.SideLemmas.{is_side-refl, is_side-true}
use Rattle.smol_plan.proofs.LinkLemmas.{link_inside}
use Rattle.smol_plan.proofs.GoodLemmas.{AllTold, AllTold-from_left, owed_source, owed_once, decided_told}
use Rattle.smol_plan.proofs.GoodKept.{Good-effect}
use Rattle.smol_plan.proofs.StateLemmas.{State-same}
use Rattle.smol_claims.specs.declared.view.Link.{Link}
use Rattle.smol_claims.specs.declared.view.View.{View}
use Rattle.smol_claims.specs.View.{has, is_link_of, has_link, view_at, view_telling}
use Rattle.smol_claims.specs.Layout.{slice_at, counter_at, decision_at}
use Rattle.smol_claims.specs.Code.{decision_in, IsCodeOf}
use Rattle.smol_claims.specs.Spelled.{is_taken_in, fired_in, is_decided_in, is_owed, spelled}
use Rattle.smol_claims.specs.Rule.{WordsAndViews, IsTrueView, KeepsRule}
use Rattle.smol_claims.specs.Plays.{SeatKnows, TellsLink, told_by_tell}
use Rattle.smol_claims.proofs.ListLemmas.{has_link-without}
use Rattle.smol_claims.proofs.SeatLemmas.{view_is, each_view, each_seat, shares-same, IsOfSome-set, IsTrueView-later}
use Rattle.smol_claims.proofs.StillLemmas.{after_step}

module _ (pairs : List Pair) (workers : ℕ) (s : WordsAndViews) (r : KeepsRule pairs workers s) (id : ℕ) (v : View) (at : get_elem? s.views id ≡ maybe.some v) (active : 0 < v.share) (l : Link) (owed : has_link v.owed l.pair l.side ≡ true) where
  abbrev st : State
  st = spelled pairs s.words s.views

  abbrev after : State
  after = after_tell pairs st id l.pair l.side

  -- the counter that is found
  abbrev n : ℕ
  n = get_or s.words (counter_at pairs l.pair) 0

  abbrev words' : List ℕ
  words' = set s.words (counter_at pairs l.pair) (n - 1)

  abbrev w : View
  w = view_telling v l (n == 1)

  abbrev views' : List View
  views' = set s.views id w

  abbrev new : State
  new = spelled pairs words' views'

  owes : st.owes id l.pair l.side ≡ true
  owes = ap (λ (u : View). has_link u.owed l.pair l.side) (view_is s.views id v w at) ∙ owed

  sourced : HasDecidedSource pairs st l.pair l.side
  sourced = owed_source pairs st r.good id l.pair l.side owes

  pub pair_in : l.pair < length pairs
  pair_in = link_inside pairs l.pair l.side sourced.source sourced.is

  once : IsOwed st l.pair l.side
  once = owed_once pairs st r.good id l.pair l.side owes

  linked : is_link pairs l.pair l.side ≡ true
  linked = ap is_some sourced.is

  other_word : (i : ℕ) → (i ≡ counter_at pairs l.pair → ⊥) → get_or words' i 0 ≡ get_or s.words i 0
  other_word i h = get_or-set_other s.words (counter_at pairs l.pair) i (n - 1) 0 h

  taken_same : (k : ℕ) → is_taken_in pairs words' k ≡ is_taken_in pairs s.words k
  taken_same k = ⊎_elim
      (λ (h : k < slice_count pairs). ap (λ x. nat_lt k (slice_count pairs) && (x == 1)) (other_word (slice_at k) (λ e. omega (arith, e, h))))
      (λ (h : slice_count pairs ≤ k). rw (le-ltb _ _ h) refl)
      (cases_lt k (slice_count pairs))

  fired_same : (j : ℕ) → fired_in pairs words' j ≡ fired_in pairs s.words j
  fired_same j =
      ap (λ x. fired_of (decision_in x)) (other_word (decision_at pairs j) (λ e. omega (arith, e, pair_in)))

  source_same : (o : Option ℕ) → is_decided_in pairs words' o ≡ is_decided_in pairs s.words o
  source_same None = refl
  source_same (Some i) = ap is_some (fired_same i)

  owes_now : (k j : ℕ) (t : Side) → new.owes k j t ≡ after.owes k j t
  owes_now k j t =
      each_view s.views id v w at (λ u. has_link u.owed j t) (λ q. after.owes q j t) here (λ q h. rw (ne_eqb q id h) refl) k
    where
      here : has_link w.owed j t ≡ after.owes id j t
      here =
          has_link-without v.owed l j t ∙ rw (eq-eqb id id refl) (ap (λ (u : View). not (is_link_of l j t) && has_link u.owed j t) (sym (view_is s.views id v w at)))

  -- another link is owed as before, and this one by nobody
  owed_other : (j : ℕ) (t : Side) → is_link_of l j t ≡ false → is_owed views' j t ≡ is_owed s.views j t
  owed_other j t e =
      ap (any_below (λ k. has_link (view_at views' k).owed j t)) (length-set s.views id w) ∙ any_below_same _ _ (length s.views) (λ k _. owes_now k j t ∙ rw (e, none (k == id)) refl)
    where
      none : (b : Bool) → (b && false) ≡ false
      none true = refl
      none false = refl

  only : (k : ℕ) → st.owes k l.pair l.side ≡ true → k ≡ id
  only k e = once.alone k e ∙ sym (once.alone id owes)

  owed_by_none : (k : ℕ) → new.owes k l.pair l.side ≡ false
  owed_by_none k = owes_now k l.pair l.side ∙ ⊎_elim
      (λ (e : st.owes k l.pair l.side ≡ true). rw (only k e, eq-eqb id id refl, eq-eqb l.pair l.pair refl, is_side-refl l.side) refl)
      (λ (e : st.owes k l.pair l.side ≡ false). rw e (none ((k == id) && ((l.pair == l.pair) && is_side l.side l.side))))
      (cases_Bool (st.owes k l.pair l.side))
    where
      none : (b : Bool) → (not b && false) ≡ false
      none true = refl
      none false = refl

  none_owed : is_owed views' l.pair l.side ≡ false
  unfolding any_below
  none_owed =
      sym (any_below_gap (λ k. has_link (view_at views' k).owed l.pair l.side) 0 (length views') (omega arith) (λ k _ _. owed_by_none k))

  told_here : new.told l.pair l.side ≡ true
  told_here =
      and_from _ _ (ap (is_decided_in pairs words') sourced.is ∙ source_same (Some sourced.source) ∙ sourced.decided) (ap not none_owed)

  told_now : (j : ℕ) (t : Side) → new.told j t ≡ after.told j t
  told_now j t = ⊎_elim
      (λ (e : is_link_of l j t ≡ true).
      let p = and_parts _ _ e in
      let here : j ≡ l.pair = eqb-true _ _ p.0 in
      let side : t ≡ l.side = is_side-true t l.side p.1 in
      let told : new.told j t ≡ true = ap (λ (z : ℕ × Side). new.told z.0 z.1) (λ i. (here i, side i)) ∙ told_here in
      told ∙ sym (or_left _ (st.told j t) e))
      (λ (e : is_link_of l j t ≡ false). rw (e, owed_other j t e, source_same (source_of pairs j t)) refl)
      (cases_Bool (is_link_of l j t))

  -- the counter falls by one
  fewer : (side : Side) → is_link pairs l.pair side ≡ true → st.told l.pair side ≡ false → left_of pairs (with_told st l.pair side) l.pair + 1 ≡ left_of pairs st l.pair
  fewer Low o u = rw (o, u, eq-eqb l.pair l.pair refl) (omega arith)
  fewer High o u = rw (o, u, eq-eqb l.pair l.pair refl) (omega arith)

  less : left_of pairs (with_told st l.pair l.side) l.pair + 1 ≡ left_of pairs st l.pair
  less = fewer l.side linked once.untold

  n_is : n ≡ left_of pairs st l.pair
  n_is = r.counters l.pair pair_in

  pub some_left : 1 ≤ n
  some_left = omega (arith, less, n_is)

  last_is : (n == 1) ≡ (left_of pairs (with_told st l.pair l.side) l.pair == 0)
  last_is = ⊎_elim
      (λ (e : n ≡ 1). let z : left_of pairs (with_told st l.pair l.side) l.pair ≡ 0 = omega (arith, less, n_is, e) in eq-eqb n 1 e ∙ sym (eq-eqb _ 0 z))
      (λ (h : n ≡ 1 → ⊥). let z : left_of pairs (with_told st l.pair l.side) l.pair ≡ 0 → ⊥ = (λ q. h (omega (arith, less, n_is, q))) in ne_eqb n 1 h ∙ sym (ne_eqb _ 0 z))
      (cases_eq n 1)

  has-choice : (b : Bool) (p : ℕ) (ks : List ℕ) (j : ℕ) → has (if b then p ∷ ks else ks) j ≡ (((j == p) && b) || has ks j)
  has-choice true p ks j = pad (j == p)
    where
      pad : (x : Bool) → (x || has ks j) ≡ ((x && true) || has ks j)
      pad true = refl
      pad false = refl
  has-choice false p ks j = pad (j == p)
    where
      pad : (x : Bool) → has ks j ≡ ((x && false) || has ks j)
      pad true = refl
      pad false = refl

  at_pair : (j : ℕ) → ((j == l.pair) && (n == 1)) ≡ ((j == l.pair) && (left_of pairs (with_told st l.pair l.side) j == 0))
  at_pair j = ⊎_elim
      (λ (e : j ≡ l.pair). rw (e, last_is) refl)
      (λ (h : j ≡ l.pair → ⊥). rw (ne_eqb j l.pair h) refl)
      (cases_eq j l.pair)

  holds_now : (k j : ℕ) → new.holds k j ≡ after.holds k j
  holds_now k j =
      each_view s.views id v w at (λ u. has u.held j) (λ q. after.holds q j) here (λ q h. rw (ne_eqb q id h) refl) k
    where
      here : has w.held j ≡ after.holds id j
      here =
          has-choice (n == 1) l.pair v.held j ∙ ap (λ b. b || has v.held j) (at_pair j) ∙ rw (eq-eqb id id refl) (ap (λ (u : View). ((j == l.pair) && (left_of pairs (with_told st l.pair l.side) j == 0)) || has u.held j) (sym (view_is s.views id v w at)))

  pub tell_spelled : spelled pairs (set s.words (counter_at pairs l.pair) (get_or s.words (counter_at pairs l.pair) 0 - 1)) (set s.views id (view_telling v l (get_or s.words (counter_at pairs l.pair) 0 == 1))) ≡ after_tell pairs (spelled pairs s.words s.views) id l.pair l.side
  tell_spelled = State-same new after taken_same fired_same told_now holds_now owes_now

  -- the counter of another pair stays
  left_elsewhere : (j : ℕ) → (j ≡ l.pair → ⊥) → left_of pairs after j ≡ left_of pairs st j
  left_elsewhere j h = rw (ne_eqb j l.pair h) refl

  counters_now : (j : ℕ) → j < length pairs → get_or words' (counter_at pairs j) 0 ≡ left_of pairs new j
  counters_now j inside = ⊎_elim
      (λ (e : j ≡ l.pair).
      let here : get_or words' (counter_at pairs l.pair) 0 ≡ n - 1 = get_or-set_same s.words (counter_at pairs l.pair) (n - 1) 0 (omega (arith, r.wide, pair_in)) in
      let now : get_or words' (counter_at pairs l.pair) 0 ≡ left_of pairs (with_told st l.pair l.side) l.pair = omega (arith, here, less, n_is) in
      ap (λ k. get_or words' (counter_at pairs k) 0) e ∙ now ∙ ap (left_of pairs after) (sym e) ∙ ap (λ (x : State). left_of pairs x j) (sym tell_spelled))
      (λ (h : j ≡ l.pair → ⊥). other_word (counter_at pairs j) (λ e. h (omega (arith, e))) ∙ r.counters j inside ∙ sym (left_elsewhere j h) ∙ ap (λ (x : State). left_of pairs x j) (sym tell_spelled))
      (cases_eq j l.pair)

  taken_later : (k : ℕ) → is_taken_in pairs s.words k ≡ true → is_taken_in pairs words' k ≡ true
  taken_later k h = taken_same k ∙ h

  pub tell_kept : KeepsRule pairs workers (after_step s (counter_at pairs l.pair) (get_or s.words (counter_at pairs l.pair) 0 - 1) id (view_telling v l (get_or s.words (counter_at pairs l.pair) 0 == 1)))
  tell_kept =
      let own = r.views id v at in
      record {
        wide = length-set s.words (counter_at pairs l.pair) (n - 1) ∙ r.wide;
        first = other_word 0 (λ q. omega (arith, q)) ∙ r.first;
        slices = λ k h. omega (arith, other_word (slice_at k) (λ e. omega (arith, e, h)), r.slices k h);
        good = subst (Good pairs) (sym tell_spelled) (Good-effect pairs st (Tell id l.pair l.side) owes r.good);
        counters = counters_now;
        codes = λ k h. subst (IsCodeOf pairs k) (sym (other_word (decision_at pairs k) (λ e. omega (arith, e, pair_in)))) (r.codes k h);
        views = each_seat s.views id v w at (IsTrueView pairs workers words') (λ k u h. IsTrueView-later pairs workers s.words words' u taken_later (λ j d. ap is_some (fired_same j) ∙ d) (r.views k u h)) record {
          plan = own.plan;
          of = own.of;
          seen = λ k h. taken_later k (own.seen k h);
          mine = λ j d. ap is_some (fired_same j) ∙ own.mine j d;
          last = own.last;
          spent = λ z. absurd (omega (arith, z, active));
        };
        shares = shares-same s.views id v w at refl ∙ r.shares;
        owners = λ j d. IsOfSome-set s.views id v w at j (λ h. h) (r.owners j (ap is_some (sym (fired_same j)) ∙ d));
      }

  -- the link was not told, so that its pair was neither held nor decided
  not_all_told : AllTold pairs st l.pair → ⊥
  not_all_told told = both_ways _ once.untold (told l.side linked)

  pub tell_tells : TellsLink v l (get_or s.words (counter_at pairs l.pair) 0) (view_telling v l (get_or s.words (counter_at pairs l.pair) 0 == 1))
  tell_tells =
      record {
        view = refl;
        new = λ e. record {
          held = false_from_ne_true _ (λ h. not_all_told (AllTold-from_left pairs st l.pair (r.good.held id l.pair (ap (λ (u : View). has u.held l.pair) (view_is s.views id v w at) ∙ h)).all_told));
          mine = false_from_ne_true _ (λ m. not_all_told (decided_told pairs st r.good l.pair ((r.views id v at).mine l.pair m)));
        };
      }

-- a seat may tell a link that it owes
pub tells : (pairs : List Pair) (workers slots id : ℕ) (me : SeatKnows) (j : ℕ) (side : Side) → 0 < me.0.share → me.0.pairs ≡ pairs → has_link me.0.owed j side ≡ true → Allows (KeepsRule pairs workers) slots id me (counter_at pairs j) (λ n. (n + (2 ^ 64 - 1)) % 2 ^ 64) (told_by_tell side (step slots (counter_at pairs j) 1 0 maybe.none) me)
tells pairs workers slots id me j side active plan owed s r deep at small =
    let l : Link = record { pair = j; side = side } in
    let x : ℕ = get_or s.words (counter_at pairs j) 0 in
    let some : 1 ≤ x = some_left pairs workers s r id me.0 at active l owed in
    let less : x - 1 ≡ (x + 18446744073709551615) % 18446744073709551616 = omega (arith, some, small) in (
      view_telling me.0 l (x == 1),
      keeps,
      tt,
      subst (λ (z : ℕ). KeepsRule pairs workers (stepped s (counter_at pairs j) z id me.1 (view_telling me.0 l (x == 1)) keeps)) less (tell_kept pairs workers s r id me.0 at active l owed),
      (refl, λ k h e. let there : counter_at pairs j ≡ counter_at pairs k = e ∙ ap (λ ps. counter_at ps k) plan in let same : j ≡ k = omega (arith, there) in subst (λ q. TellsLink me.0 (record { pair = q; side = side }) x (view_telling me.0 l (x == 1))) same (tell_tells pairs workers s r id me.0 at active l owed)),
    )
