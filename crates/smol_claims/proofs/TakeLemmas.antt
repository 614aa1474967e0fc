-- A take keeps the rule. Where it found the slice untaken it is the machine's event, and else no event.
use Rattle.std.proofs.Common.{◌≡◌, ℕ, suc, ◌<◌, ◌≤◌, Bool, true, false, ◌&&◌, ◌||◌, ◌==◌, nat_lt, List, ◌++◌, length, get_or, set, get_or-set_same, get_or-set_other, length-set, Option, Some, None, ◌⊎◌, refl, sym, ◌∙◌, ap, subst, inl, inr, ⊎_elim, arith, if◌then◌else◌}
use Rattle.std.specs.Option.{is_some}
use Rattle.std.proofs.lemmas.Bool.{cases_eq, lt-ltb, eq-eqb, ne_eqb, eqb-true, ltb-true, and_parts, or_left, or_right, false≢true, false_from_ne_true}
use mathlib.Core.Option as maybe
use lib.ListN.{get_elem?}
use Rattle.atomic_table.specs.Table.{step, keeps, Allows}
use Rattle.smol_plan.specs.declared.pair.Pair.{Pair}
use Rattle.smol_plan.specs.declared.pair.Side.{Side}
use Rattle.smol_plan.specs.declared.event.Event.TheVariants.{Take}
use Rattle.smol_plan.specs.Links.{source_of}
use Rattle.smol_plan.specs.Machine.{State, slice_count, slice_of, has_no_link, left_of, after_take}
use Rattle.smol_plan.specs.PairState.{fired_of}
use Rattle.smol_plan.specs.Good.{Good}
use Rattle.smol_plan.proofs.GoodKept.{Good-effect}
use Rattle.smol_plan.proofs.StateLemmas.{State-same}
use Rattle.smol_claims.specs.declared.view.View.{View}
use Rattle.smol_claims.specs.View.{has, has_link, free_pairs, view_at, view_taking}
use Rattle.smol_claims.specs.Layout.{slice_at, counter_at, decision_at}
use Rattle.smol_claims.specs.Code.{decision_in}
use Rattle.smol_claims.specs.Spelled.{is_taken_in, fired_in, is_decided_in, spelled}
use Rattle.smol_claims.specs.Rule.{WordsAndViews, IsTrueView, KeepsRule}
use Rattle.smol_claims.specs.Plays.{SeatKnows, IsNew, told_by_take}
use Rattle.smol_claims.proofs.ListLemmas.{has-append, has-free_below}
use Rattle.smol_claims.proofs.SeatLemmas.{view_is, each_view, same_part, each_seat, shares-same, IsOfSome-set, is_owed-same, IsTrueView-later}
use Rattle.smol_claims.proofs.StillLemmas.{after_step, IsStill, still_step, still_step_spelled}

module _ (pairs : List Pair) (workers : ℕ) (s : WordsAndViews) (r : KeepsRule pairs workers s) (id : ℕ) (v : View) (at : get_elem? s.views id ≡ maybe.some v) (active : 0 < v.share) (slice : ℕ) (inside : slice < slice_count pairs) where
  plan : v.pairs ≡ pairs
  plan = (r.views id v at).plan active

  in_words : slice_at slice < length s.words
  in_words = omega (arith, r.wide, inside)

  other_word : (i : ℕ) → (i ≡ slice_at slice → ⊥) → get_or (set s.words (slice_at slice) 1) i 0 ≡ get_or s.words i 0
  other_word i h = get_or-set_other s.words (slice_at slice) i 1 0 h

  this_word : get_or (set s.words (slice_at slice) 1) (slice_at slice) 0 ≡ 1
  this_word = get_or-set_same s.words (slice_at slice) 1 0 in_words

  -- where the word was 0 the slice was not taken
  pub untaken : get_or s.words (slice_at slice) 0 ≡ 0 → is_taken_in pairs s.words slice ≡ false
  untaken e = rw (e, lt-ltb _ _ inside) refl

  this_taken : is_taken_in pairs (set s.words (slice_at slice) 1) slice ≡ true
  this_taken = rw (this_word, lt-ltb _ _ inside) refl

  -- the slice is taken now, and the others as before
  taken_now : (k : ℕ) → is_taken_in pairs (set s.words (slice_at slice) 1) k ≡ ((k == slice) || is_taken_in pairs s.words k)
  taken_now k = ⊎_elim
      (λ (e : k ≡ slice). ap (is_taken_in pairs (set s.words (slice_at slice) 1)) e ∙ this_taken ∙ sym (or_left _ (is_taken_in pairs s.words k) (eq-eqb k slice e)))
      (λ (n : k ≡ slice → ⊥). ap (λ x. nat_lt k (slice_count pairs) && (x == 1)) (other_word (slice_at k) (λ e. n (omega (arith, e)))) ∙ rw (ne_eqb k slice n) refl)
      (cases_eq k slice)

  fired_same : (j : ℕ) → fired_in pairs (set s.words (slice_at slice) 1) j ≡ fired_in pairs s.words j
  fired_same j =
      ap (λ x. fired_of (decision_in x)) (other_word (decision_at pairs j) (λ e. omega (arith, e, inside)))

  decided_same : (o : Option ℕ) → is_decided_in pairs (set s.words (slice_at slice) 1) o ≡ is_decided_in pairs s.words o
  decided_same None = refl
  decided_same (Some i) = ap is_some (fired_same i)

  slices_now : (k : ℕ) → k < slice_count pairs → get_or (set s.words (slice_at slice) 1) (slice_at k) 0 ≤ 1
  slices_now k l = ⊎_elim
      (λ (e : k ≡ slice). let is : get_or (set s.words (slice_at slice) 1) (slice_at k) 0 ≡ 1 = ap (λ i. get_or (set s.words (slice_at slice) 1) (slice_at i) 0) e ∙ this_word in omega (arith, is))
      (λ (n : k ≡ slice → ⊥). omega (arith, other_word (slice_at k) (λ e. n (omega (arith, e))), r.slices k l))
      (cases_eq k slice)

  -- the seat sees one slice more taken where it had seen all before it
  seen_now : (words : List ℕ) (b : Bool) → ((k : ℕ) → is_taken_in pairs s.words k ≡ true → is_taken_in pairs words k ≡ true) → is_taken_in pairs words slice ≡ true → (k : ℕ) → k < (view_taking v slice b).seen → is_taken_in pairs words k ≡ true
  seen_now words b later here k l = go (v.seen == slice) refl l
    where
      go : (x : Bool) → (v.seen == slice) ≡ x → k < (if x then suc slice else v.seen) → is_taken_in pairs words k ≡ true
      go true e h = ⊎_elim
          (λ (q : k ≡ slice). ap (is_taken_in pairs words) q ∙ here)
          (λ (n : k ≡ slice → ⊥). let all : v.seen ≡ slice = eqb-true _ _ e in later k ((r.views id v at).seen k (omega (arith, h, n, all))))
          (cases_eq k slice)
      go false e h = later k ((r.views id v at).seen k h)

  -- a take that found the slice taken
  pub taken_still : IsStill v (view_taking v slice false)
  taken_still = record { held = refl; owed = refl; mine = refl; share = refl }

  pub take_taken : get_or s.words (slice_at slice) 0 ≡ 1 → KeepsRule pairs workers (after_step s (slice_at slice) 1 id (view_taking v slice false))
  take_taken e =
      let own = r.views id v at in
      still_step pairs workers s r id v (view_taking v slice false) at taken_still (slice_at slice) 1 e record {
        plan = own.plan;
        of = own.of;
        seen = seen_now s.words false (λ k h. h) (rw (e, lt-ltb _ _ inside) refl);
        mine = own.mine;
        last = own.last;
        spent = λ z. let x = own.spent z in record { held = x.held; owed = x.owed; mine = x.mine };
      }

  pub take_taken_spelled : get_or s.words (slice_at slice) 0 ≡ 1 → spelled pairs (set s.words (slice_at slice) 1) (set s.views id (view_taking v slice false)) ≡ spelled pairs s.words s.views
  take_taken_spelled e =
      still_step_spelled pairs workers s r id v (view_taking v slice false) at taken_still (slice_at slice) 1 e

  -- a take that found the slice untaken
  owes_same : (k j : ℕ) (t : Side) → has_link (view_at (set s.views id (view_taking v slice true)) k).owed j t ≡ has_link (view_at s.views k).owed j t
  owes_same k j t = same_part s.views id v (view_taking v slice true) at (λ u. has_link u.owed j t) refl k

  told_same : (j : ℕ) (t : Side) → (spelled pairs (set s.words (slice_at slice) 1) (set s.views id (view_taking v slice true))).told j t ≡ (spelled pairs s.words s.views).told j t
  told_same j t =
      rw (decided_same (source_of pairs j t), is_owed-same s.views (set s.views id (view_taking v slice true)) j t (λ k. owes_same k j t)) refl

  free_now : (j : ℕ) → has (free_pairs v.pairs slice) j ≡ (nat_lt j (length pairs) && ((slice_of j == slice) && has_no_link pairs j))
  free_now j = ap (λ ps. has (free_pairs ps slice) j) plan ∙ has-free_below pairs slice (length pairs) j

  holds_now : (k j : ℕ) → has (view_at (set s.views id (view_taking v slice true)) k).held j ≡ (after_take pairs (spelled pairs s.words s.views) id slice).holds k j
  holds_now k j =
      each_view s.views id v (view_taking v slice true) at (λ u. has u.held j) (λ q. (after_take pairs (spelled pairs s.words s.views) id slice).holds q j) here (λ q n. rw (ne_eqb q id n) refl) k
    where
      here : has (free_pairs v.pairs slice ++ v.held) j ≡ (after_take pairs (spelled pairs s.words s.views) id slice).holds id j
      here =
          has-append (free_pairs v.pairs slice) v.held j ∙ rw (free_now j, eq-eqb id id refl) (ap (λ (u : View). (nat_lt j (length pairs) && ((slice_of j == slice) && has_no_link pairs j)) || has u.held j) (sym (view_is s.views id v (view_taking v slice true) at)))

  pub take_new_spelled : spelled pairs (set s.words (slice_at slice) 1) (set s.views id (view_taking v slice true)) ≡ after_take pairs (spelled pairs s.words s.views) id slice
  take_new_spelled = State-same _ _ taken_now fired_same told_same holds_now owes_same

  later : (k : ℕ) → is_taken_in pairs s.words k ≡ true → is_taken_in pairs (set s.words (slice_at slice) 1) k ≡ true
  later k h = taken_now k ∙ or_right (k == slice) _ h

  pub take_new : get_or s.words (slice_at slice) 0 ≡ 0 → KeepsRule pairs workers (after_step s (slice_at slice) 1 id (view_taking v slice true))
  take_new e =
      let own = r.views id v at in
      record {
        wide = length-set s.words (slice_at slice) 1 ∙ r.wide;
        first = other_word 0 (λ q. omega (arith, q)) ∙ r.first;
        slices = slices_now;
        good = subst (Good pairs) (sym take_new_spelled) (Good-effect pairs (spelled pairs s.words s.views) (Take id slice) (untaken e) r.good);
        counters = λ j l. other_word (counter_at pairs j) (λ q. omega (arith, q, inside)) ∙ r.counters j l ∙ ap (λ (x : State). left_of pairs x j) (sym take_new_spelled);
        codes = λ j l. subst (Rattle.smol_claims.specs.Code.IsCodeOf pairs j) (sym (other_word (decision_at pairs j) (λ q. omega (arith, q, inside)))) (r.codes j l);
        views = each_seat s.views id v (view_taking v slice true) at (IsTrueView pairs workers (set s.words (slice_at slice) 1)) (λ k u h. IsTrueView-later pairs workers s.words (set s.words (slice_at slice) 1) u later (λ j d. ap is_some (fired_same j) ∙ d) (r.views k u h)) record {
          plan = own.plan;
          of = own.of;
          seen = seen_now (set s.words (slice_at slice) 1) true later this_taken;
          mine = λ j d. ap is_some (fired_same j) ∙ own.mine j d;
          last = own.last;
          spent = λ z. absurd (omega (arith, z, active));
        };
        shares = shares-same s.views id v (view_taking v slice true) at refl ∙ r.shares;
        owners = λ j d. IsOfSome-set s.views id v (view_taking v slice true) at j (λ h. h) (r.owners j (ap is_some (sym (fired_same j)) ∙ d));
      }

  -- the pairs without a link of an untaken slice are new to every seat
  pub take_fresh : get_or s.words (slice_at slice) 0 ≡ 0 → (j : ℕ) → has (free_pairs v.pairs slice) j ≡ true → IsNew v j
  take_fresh e j h =
      let a = and_parts _ _ (sym (free_now j) ∙ h) in
      let b = and_parts _ _ a.1 in
      let idle = r.good.untouched j (ltb-true _ _ a.0) record { no_link = b.1; untaken = ap (is_taken_in pairs s.words) (eqb-true _ _ b.0) ∙ untaken e } in
      record {
        held = ap (λ (u : View). has u.held j) (sym (view_is s.views id v v at)) ∙ idle.nobody id;
        mine = false_from_ne_true _ (λ m. false≢true (ap is_some (sym idle.undecided) ∙ (r.views id v at).mine j m));
      }

  pub found_is : (get_or s.words (slice_at slice) 0 ≡ 0) ⊎ (get_or s.words (slice_at slice) 0 ≡ 1)
  found_is = ⊎_elim
      (λ (e : get_or s.words (slice_at slice) 0 ≡ 0). inl e)
      (λ (n : get_or s.words (slice_at slice) 0 ≡ 0 → ⊥). inr (omega (arith, n, r.slices slice inside)))
      (cases_eq (get_or s.words (slice_at slice) 0) 0)

  -- whatever was found
  pub take_kept : KeepsRule pairs workers (after_step s (slice_at slice) 1 id (view_taking v slice (get_or s.words (slice_at slice) 0 == 0)))
  take_kept = ⊎_elim
      (λ (e : get_or s.words (slice_at slice) 0 ≡ 0). rw (eq-eqb _ 0 e) (take_new e))
      (λ (e : get_or s.words (slice_at slice) 0 ≡ 1). rw (ne_eqb (get_or s.words (slice_at slice) 0) 0 (λ z. omega (arith, e, z))) (take_taken e))
      found_is

-- a seat may take a slice
pub takes : (pairs : List Pair) (workers slots id : ℕ) (me : SeatKnows) (slice : ℕ) → 0 < me.0.share → slice < slice_count pairs → Allows (KeepsRule pairs workers) slots id me (slice_at slice) (λ _. 1) (told_by_take (step slots (slice_at slice) 1 0 maybe.none) me)
takes pairs workers slots id me slice active inside s r deep at small = (
  view_taking me.0 slice (get_or s.words (slice_at slice) 0 == 0),
  keeps,
  tt,
  take_kept pairs workers s r id me.0 at active slice inside,
  (refl, λ k l e. let same : slice ≡ k = omega (arith, e) in subst (λ q. Rattle.smol_claims.specs.Plays.TakesSlice me.0 q (get_or s.words (slice_at slice) 0) (view_taking me.0 slice (get_or s.words (slice_at slice) 0 == 0))) same record { view = refl; new = take_fresh pairs workers s r id me.0 at active slice inside }),
)
