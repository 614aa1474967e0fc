-- A decision of a held pair, by the word of what serial matching decides, keeps the rule and is the machine's event.
use Rattle.std.proofs.Common.{◌≡◌, ℕ, ◌<◌, ◌≤◌, Bool, true, false, not, ◌&&◌, ◌||◌, ◌==◌, nat_lt, List, length, get_or, set, get_or-set_same, get_or-set_other, length-set, Option, Some, None, refl, sym, ◌∙◌, ap, subst, inr, ⊎_elim, arith}
use Rattle.std.specs.Option.{is_some}
use Rattle.std.proofs.lemmas.Bool.{cases_eq, cases_lt, le-ltb, cases_Bool, eq-eqb, ne_eqb, eqb-true, or_cases, or_left, or_right, false≢true, both_ways, false_from_ne_true}
use mathlib.Core.Option as maybe
use lib.ListN.{get_elem?}
use Rattle.atomic_table.specs.Table.{step, keeps, Allows}
use Rattle.smol_plan.specs.declared.pair.Pair.{Pair}
use Rattle.smol_plan.specs.declared.pair.Side.{Side}
use Rattle.smol_plan.specs.declared.event.Event.TheVariants.{Decide}
use Rattle.smol_plan.specs.Matching.{fires}
use Rattle.smol_plan.specs.Links.{source_of, comes_from, is_number, any_below}
use Rattle.smol_plan.specs.Machine.{State, slice_count, left_of, is_beaten, after_decide}
use Rattle.smol_plan.specs.PairState.{fired_of}
use Rattle.smol_plan.specs.Good.{Good, IsHeldWell}
use Rattle.smol_plan.proofs.BelowLemmas.{any_below_same, any_below_from}
use Rattle.smol_plan.proofs.GoodLemmas.{AllTold-from_left, is_beaten-fires}
use Rattle.smol_plan.proofs.GoodKept.{Good-effect, is_number_from}
use Rattle.smol_plan.proofs.StateLemmas.{State-same}
use Rattle.smol_claims.specs.declared.view.View.{View}
use Rattle.smol_claims.specs.View.{has, but, has_link, links_from, view_at, view_deciding}
use Rattle.smol_claims.specs.Layout.{slice_at, counter_at, decision_at}
use Rattle.smol_claims.specs.Code.{code_of, decision_in, serial_decision, IsCodeOf}
use Rattle.smol_claims.specs.Spelled.{is_taken_in, fired_in, is_decided_in, is_owed, spelled}
use Rattle.smol_claims.specs.Rule.{WordsAndViews, IsTrueView, IsOfSome, KeepsRule}
use Rattle.smol_claims.specs.Plays.{SeatKnows, Decides, told_by_decision}
use Rattle.smol_claims.proofs.ListLemmas.{has-but, has_link-append, has_link-links_from}
use Rattle.smol_claims.proofs.CodeLemmas.{decision_in-code_of}
use Rattle.smol_claims.proofs.SeatLemmas.{seat_inside, view_is, new_view, each_view, each_seat, shares-same, IsOfSome-set, IsTrueView-later}
use Rattle.smol_claims.proofs.StillLemmas.{after_step}

module _ (pairs : List Pair) (workers : ℕ) (s : WordsAndViews) (r : KeepsRule pairs workers s) (id : ℕ) (v : View) (at : get_elem? s.views id ≡ maybe.some v) (active : 0 < v.share) (j code : ℕ) (holds : has v.held j ≡ true) (code_is : code ≡ code_of (serial_decision pairs j)) where
  abbrev st : State
  st = spelled pairs s.words s.views

  abbrev after : State
  after = after_decide pairs st id j

  abbrev words' : List ℕ
  words' = set s.words (decision_at pairs j) code

  abbrev w : View
  w = view_deciding v j

  abbrev views' : List View
  views' = set s.views id w

  abbrev new : State
  new = spelled pairs words' views'

  held : st.holds id j ≡ true
  held = ap (λ (u : View). has u.held j) (view_is s.views id v w at) ∙ holds

  well : IsHeldWell pairs st id j
  well = r.good.held id j held

  other_word : (i : ℕ) → (i ≡ decision_at pairs j → ⊥) → get_or words' i 0 ≡ get_or s.words i 0
  other_word i h = get_or-set_other s.words (decision_at pairs j) i code 0 h

  this_word : get_or words' (decision_at pairs j) 0 ≡ code
  this_word = get_or-set_same s.words (decision_at pairs j) code 0 (omega (arith, r.wide, well.in_list))

  taken_same : (k : ℕ) → is_taken_in pairs words' k ≡ is_taken_in pairs s.words k
  taken_same k = ⊎_elim
      (λ (h : k < slice_count pairs). ap (λ x. nat_lt k (slice_count pairs) && (x == 1)) (other_word (slice_at k) (λ e. omega (arith, e, h))))
      (λ (h : slice_count pairs ≤ k). rw (le-ltb _ _ h) refl)
      (cases_lt k (slice_count pairs))

  fired_this : fired_in pairs words' j ≡ Some (fires pairs j)
  fired_this =
      ap (λ x. fired_of (decision_in x)) (this_word ∙ code_is) ∙ ap fired_of (decision_in-code_of (serial_decision pairs j))

  fired_other : (k : ℕ) → (k ≡ j → ⊥) → fired_in pairs words' k ≡ fired_in pairs s.words k
  fired_other k n =
      ap (λ x. fired_of (decision_in x)) (other_word (decision_at pairs k) (λ e. n (omega (arith, e))))

  value : Some (fires pairs j) ≡ Some (not (is_beaten pairs st j))
  value =
      ap Some (sym (is_beaten-fires pairs st r.good j well.in_list (AllTold-from_left pairs st j well.all_told)))

  fired_now : (k : ℕ) → new.decision k ≡ after.decision k
  fired_now k = ⊎_elim
      (λ (e : k ≡ j). ap (fired_in pairs words') e ∙ fired_this ∙ value ∙ rw (eq-eqb k j e) refl)
      (λ (n : k ≡ j → ⊥). fired_other k n ∙ rw (ne_eqb k j n) refl)
      (cases_eq k j)

  holds_now : (k i : ℕ) → new.holds k i ≡ after.holds k i
  holds_now k i =
      each_view s.views id v w at (λ u. has u.held i) (λ q. after.holds q i) here (λ q n. rw (ne_eqb q id n) refl) k
    where
      here : has (but v.held j) i ≡ after.holds id i
      here =
          has-but v.held j i ∙ rw (eq-eqb id id refl) (ap (λ (u : View). not (i == j) && has u.held i) (sym (view_is s.views id v w at)))

  links_now : (i : ℕ) (t : Side) → has_link w.owed i t ≡ (comes_from pairs j i t || has_link v.owed i t)
  links_now i t =
      has_link-append (links_from v.pairs j) v.owed i t ∙ ap (λ b. b || has_link v.owed i t) (ap (λ ps. has_link (links_from ps j) i t) ((r.views id v at).plan active) ∙ has_link-links_from pairs j i t)

  owes_now : (k i : ℕ) (t : Side) → new.owes k i t ≡ after.owes k i t
  owes_now k i t =
      each_view s.views id v w at (λ u. has_link u.owed i t) (λ q. after.owes q i t) here (λ q n. rw (ne_eqb q id n) refl) k
    where
      here : has_link w.owed i t ≡ after.owes id i t
      here =
          links_now i t ∙ rw (eq-eqb id id refl) (ap (λ (u : View). comes_from pairs j i t || has_link u.owed i t) (sym (view_is s.views id v w at)))

  -- a link of another source is owed as before
  owed_other : (i : ℕ) (t : Side) → comes_from pairs j i t ≡ false → is_owed views' i t ≡ is_owed s.views i t
  owed_other i t e =
      ap (any_below (λ k. has_link (view_at views' k).owed i t)) (length-set s.views id w) ∙ any_below_same _ _ (length s.views) (λ k _. owes_now k i t ∙ rw (e, none (k == id)) refl)
    where
      none : (b : Bool) → (b && false) ≡ false
      none true = refl
      none false = refl

  -- a link of this source is owed by this seat
  owed_here : (i : ℕ) (t : Side) → comes_from pairs j i t ≡ true → is_owed views' i t ≡ true
  owed_here i t e =
      any_below_from _ (length views') id (omega (arith, length-set s.views id w, seat_inside s.views id v at)) (ap (λ (u : View). has_link u.owed i t) (new_view s.views id v w at) ∙ links_now i t ∙ or_left _ (has_link v.owed i t) e)

  none_told : (b : Bool) → (b && false) ≡ false
  none_told true = refl
  none_told false = refl

  told_here : (i : ℕ) (t : Side) → comes_from pairs j i t ≡ true → new.told i t ≡ st.told i t
  told_here i t e =
      let from : source_of pairs i t ≡ Some j = is_number_from j (source_of pairs i t) e in
      let source_is : is_decided_in pairs s.words (source_of pairs i t) ≡ false = ap (is_decided_in pairs s.words) from ∙ ap is_some well.undecided in
      rw (owed_here i t e, source_is) (none_told (is_decided_in pairs words' (source_of pairs i t)))

  source_same : (o : Option ℕ) → is_number j o ≡ false → is_decided_in pairs words' o ≡ is_decided_in pairs s.words o
  source_same None e = refl
  source_same (Some i) e = ap is_some (fired_other i (λ q. both_ways (i == j) e (eq-eqb i j q)))

  told_now : (i : ℕ) (t : Side) → new.told i t ≡ after.told i t
  told_now i t = ⊎_elim
      (λ (e : comes_from pairs j i t ≡ true). told_here i t e)
      (λ (e : comes_from pairs j i t ≡ false). rw (owed_other i t e, source_same (source_of pairs i t) e) refl)
      (cases_Bool (comes_from pairs j i t))

  pub decide_spelled : spelled pairs (set s.words (decision_at pairs j) code) (set s.views id (view_deciding v j)) ≡ after_decide pairs (spelled pairs s.words s.views) id j
  decide_spelled = State-same new after taken_same fired_now told_now holds_now owes_now

  decided_later : (k : ℕ) → is_some (fired_in pairs s.words k) ≡ true → is_some (fired_in pairs words' k) ≡ true
  decided_later k h = ⊎_elim
      (λ (e : k ≡ j). ap is_some (ap (fired_in pairs words') e ∙ fired_this))
      (λ (n : k ≡ j → ⊥). ap is_some (fired_other k n) ∙ h)
      (cases_eq k j)

  taken_later : (k : ℕ) → is_taken_in pairs s.words k ≡ true → is_taken_in pairs words' k ≡ true
  taken_later k h = taken_same k ∙ h

  mine_now : (k : ℕ) → has w.mine k ≡ true → is_some (fired_in pairs words' k) ≡ true
  mine_now k h = ⊎_elim
      (λ (e : (k == j) ≡ true). ap is_some (ap (fired_in pairs words') (eqb-true k j e) ∙ fired_this))
      (λ (e : has v.mine k ≡ true). decided_later k ((r.views id v at).mine k e))
      (or_cases _ _ h)

  owners_now : (k : ℕ) → is_some (fired_in pairs words' k) ≡ true → IsOfSome views' k
  owners_now k h = ⊎_elim
      (λ (e : k ≡ j). (id, ap (λ (u : View). has u.mine k) (new_view s.views id v w at) ∙ or_left _ (has v.mine k) (eq-eqb k j e)))
      (λ (n : k ≡ j → ⊥). IsOfSome-set s.views id v w at k (λ q. or_right _ _ q) (r.owners k (ap is_some (sym (fired_other k n)) ∙ h)))
      (cases_eq k j)

  codes_now : (k : ℕ) → k < length pairs → IsCodeOf pairs k (get_or words' (decision_at pairs k) 0)
  codes_now k l = ⊎_elim
      (λ (e : k ≡ j). inr (ap (λ i. get_or words' (decision_at pairs i) 0) e ∙ this_word ∙ code_is ∙ ap (λ i. code_of (serial_decision pairs i)) (sym e)))
      (λ (n : k ≡ j → ⊥). subst (IsCodeOf pairs k) (sym (other_word (decision_at pairs k) (λ e. n (omega (arith, e))))) (r.codes k l))
      (cases_eq k j)

  pub decide_kept : KeepsRule pairs workers (after_step s (decision_at pairs j) code id (view_deciding v j))
  decide_kept =
      let own = r.views id v at in
      record {
        wide = length-set s.words (decision_at pairs j) code ∙ r.wide;
        first = other_word 0 (λ q. omega (arith, q)) ∙ r.first;
        slices = λ k l. omega (arith, other_word (slice_at k) (λ e. omega (arith, e, l)), r.slices k l);
        good = subst (Good pairs) (sym decide_spelled) (Good-effect pairs st (Decide id j) held r.good);
        counters = λ k l. other_word (counter_at pairs k) (λ e. omega (arith, e, l)) ∙ r.counters k l ∙ ap (λ (x : State). left_of pairs x k) (sym decide_spelled);
        codes = codes_now;
        views = each_seat s.views id v w at (IsTrueView pairs workers words') (λ k u h. IsTrueView-later pairs workers s.words words' u taken_later decided_later (r.views k u h)) record {
          plan = own.plan;
          of = own.of;
          seen = λ k l. taken_later k (own.seen k l);
          mine = mine_now;
          last = own.last;
          spent = λ z. absurd (omega (arith, z, active));
        };
        shares = shares-same s.views id v w at refl ∙ r.shares;
        owners = owners_now;
      }

  -- the pair was not decided by this seat before
  pub decide_tells : Decides v j (view_deciding v j)
  decide_tells =
      record {
        view = refl;
        new = false_from_ne_true _ (λ m. false≢true (ap is_some (sym well.undecided) ∙ (r.views id v at).mine j m));
      }

-- a seat may decide a pair that it holds, as serial matching decides it
pub decides : (pairs : List Pair) (workers slots id : ℕ) (me : SeatKnows) (j code : ℕ) → 0 < me.0.share → me.0.pairs ≡ pairs → has me.0.held j ≡ true → code ≡ code_of (serial_decision pairs j) → Allows (KeepsRule pairs workers) slots id me (decision_at pairs j) (λ _. code) (told_by_decision (step slots (decision_at pairs j) code 0 maybe.none) me)
decides pairs workers slots id me j code active plan holds code_is s r deep at small = (
  view_deciding me.0 j,
  keeps,
  tt,
  decide_kept pairs workers s r id me.0 at active j code holds code_is,
  (refl, λ k l e. let there : decision_at pairs j ≡ decision_at pairs k = e ∙ ap (λ ps. decision_at ps k) plan in let same : j ≡ k = omega (arith, there) in subst (λ q. Decides me.0 q (view_deciding me.0 j)) same (decide_tells pairs workers s r id me.0 at active j code holds code_is)),
)
