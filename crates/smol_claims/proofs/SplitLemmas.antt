-- A seat that is split in two, or two that are joined, keep the rule, and are no event.
use Rattle.std.proofs.Common.{◌≡◌, ℕ, zero, suc, ◌<◌, ◌≤◌, max, true, List, [], ◌∷◌, ◌++◌, set, sum_by, Option, Some, None, refl, sym, ◌∙◌, ap, subst, ⊎_elim, arith}
use Rattle.std.proofs.lemmas.List.Sums.{sum_by-set, sum_by-append}
use Rattle.std.proofs.lemmas.Bool.{cases_eq, cases_lt, or_cases, or_left, or_right, false≢true}
use mathlib.Core.Option as maybe
use lib.ListN.{get_elem?}
use Rattle.atomic_table.specs.Table.{Splits, Joins}
use Rattle.atomic_table.proofs.Lists.{at_snoc, set_else}
use Rattle.smol_plan.specs.declared.pair.Pair.{Pair}
use Rattle.smol_plan.specs.Machine.{State, left_of}
use Rattle.smol_plan.specs.Good.{Good}
use Rattle.smol_claims.specs.declared.view.Look.{Look}
use Rattle.smol_claims.specs.declared.view.View.{View}
use Rattle.smol_claims.specs.View.{has, has_link, spent, view_at, view_splitting, view_of_new, view_joining}
use Rattle.smol_claims.specs.Spelled.{is_taken_in, spelled}
use Rattle.smol_claims.specs.Rule.{WordsAndViews, IsTrueView, IsOfSome, KeepsRule}
use Rattle.smol_claims.proofs.ListLemmas.{has-append}
use Rattle.smol_claims.proofs.SeatLemmas.{seat_inside, seat_view, new_view, other_view, each_seat, same_part, spelled-same, IsOfSome-set}

-- a view at the end that is like a spent one in some part
view_at-snoc : {A : Type 0} (f : View → A) (new : View) → f new ≡ f spent → (views : List View) (k : ℕ) → f (view_at (views ++ new ∷ []) k) ≡ f (view_at views k)
view_at-snoc f new e [] zero = e
view_at-snoc f new e [] (suc k) = refl
view_at-snoc f new e (x ∷ xs) zero = refl
view_at-snoc f new e (x ∷ xs) (suc k) = view_at-snoc f new e xs k

-- where the same state is spelled from the same words, what is left of the rule is of the views
module _ (pairs : List Pair) (workers : ℕ) (s : WordsAndViews) (r : KeepsRule pairs workers s) (next : List View) where
  kept_from : spelled pairs s.words next ≡ spelled pairs s.words s.views → ((k : ℕ) (u : View) → get_elem? next k ≡ maybe.some u → IsTrueView pairs workers s.words u) → sum_by (λ (u : View). u.share) next ≡ workers → ((j : ℕ) → IsOfSome s.views j → IsOfSome next j) → KeepsRule pairs workers record { words = s.words; homes = s.homes; views = next }
  kept_from same true_views shares of_some =
      record {
        wide = r.wide;
        first = r.first;
        slices = r.slices;
        good = subst (Good pairs) (sym same) r.good;
        counters = λ j l. r.counters j l ∙ ap (λ (x : State). left_of pairs x j) (sym same);
        codes = r.codes;
        views = true_views;
        shares = shares;
        owners = λ j e. of_some j (r.owners j e);
      }

module _ (pairs : List Pair) (workers : ℕ) (s : WordsAndViews) (r : KeepsRule pairs workers s) (id : ℕ) (v : View) (at : get_elem? s.views id ≡ maybe.some v) (more : 1 < v.share) where
  abbrev left : List View
  left = set s.views id (view_splitting v)

  abbrev split : List View
  split = left ++ view_of_new v ∷ []

  split_part : {A : Type 0} (f : View → A) → f (view_splitting v) ≡ f v → f (view_of_new v) ≡ f spent → (k : ℕ) → f (view_at split k) ≡ f (view_at s.views k)
  split_part f own new k =
      view_at-snoc f (view_of_new v) new left k ∙ same_part s.views id v (view_splitting v) at f own k

  pub split_spelled : spelled pairs s.words (set s.views id (view_splitting v) ++ view_of_new v ∷ []) ≡ spelled pairs s.words s.views
  split_spelled =
      spelled-same pairs s.words s.views split (λ k j. split_part (λ u. has u.held j) refl refl k) (λ k j t. split_part (λ u. has_link u.owed j t) refl refl k)

  split_views : (k : ℕ) (u : View) → get_elem? split k ≡ maybe.some u → IsTrueView pairs workers s.words u
  split_views k u e = ⊎_elim
      (λ (h : get_elem? left k ≡ maybe.some u). each_seat s.views id v (view_splitting v) at (IsTrueView pairs workers s.words) r.views still k u h)
      (λ (h : view_of_new v ≡ u). subst (IsTrueView pairs workers s.words) h new)
      (at_snoc left (view_of_new v) u k e)
    where
      still : IsTrueView pairs workers s.words (view_splitting v)
      still =
          let own = r.views id v at in
          record {
            plan = λ a. own.plan (omega (arith, more));
            of = λ a. own.of (omega (arith, more));
            seen = own.seen;
            mine = own.mine;
            last = own.last;
            spent = λ z. absurd (omega (arith, z, more));
          }

      new : IsTrueView pairs workers s.words (view_of_new v)
      new =
          let own = r.views id v at in
          record {
            plan = λ a. own.plan (omega (arith, more));
            of = λ a. own.of (omega (arith, more));
            seen = λ slice l. absurd (omega (arith, l));
            mine = λ j h. absurd (false≢true h);
            last = λ look h. absurd (none_is look h);
            spent = λ z. absurd (omega (arith, z));
          }
        where
          none_is : (look : Look) → ◌≡◌ {A = Option Look} None (Some look) → ⊥
          none_is look h = cc

  split_shares : sum_by (λ (u : View). u.share) split ≡ workers
  split_shares =
      let both = sum_by-append (λ (u : View). u.share) left (view_of_new v ∷ []) in
      let sums = sum_by-set (λ (u : View). u.share) s.views id (view_splitting v) spent (seat_inside s.views id v at) in
      let was : (view_at s.views id).share ≡ v.share = ap (λ (u : View). u.share) (seat_view s.views id v spent at) in
      omega (arith, both, sums, was, more, r.shares)

  split_owners : (j : ℕ) → IsOfSome s.views j → IsOfSome split j
  split_owners j h = (h.0, split_part (λ u. has u.mine j) refl refl h.0 ∙ h.1)

  pub split_kept : KeepsRule pairs workers record { words = s.words; homes = s.homes; views = set s.views id (view_splitting v) ++ view_of_new v ∷ [] }
  split_kept =
      kept_from pairs workers s r split split_spelled split_views split_shares split_owners

-- a seat with more than one part may be split
pub splits : (pairs : List Pair) (workers id : ℕ) (v : View) → 1 < v.share → Splits (KeepsRule pairs workers) id v (view_splitting v) (view_of_new v)
splits pairs workers id v more s r at = split_kept pairs workers s r id v at more

module _ (pairs : List Pair) (workers : ℕ) (s : WordsAndViews) (r : KeepsRule pairs workers s) (id : ℕ) (v : View) (at : get_elem? s.views id ≡ maybe.some v) (active : 0 < v.share) (other : ℕ) (w : View) (apart : ¬ (other ≡ id)) (there : get_elem? (set s.views id (view_joining v w)) other ≡ maybe.some w) (none_held : w.held ≡ []) (none_owed : w.owed ≡ []) where
  abbrev grown : List View
  grown = set s.views id (view_joining v w)

  abbrev joined : List View
  joined = set grown other spent

  was_there : get_elem? s.views other ≡ maybe.some w
  was_there = sym (set_else s.views id other (view_joining v w) apart) ∙ there

  join_part : {A : Type 0} (f : View → A) → f (view_joining v w) ≡ f v → f spent ≡ f w → (k : ℕ) → f (view_at joined k) ≡ f (view_at s.views k)
  join_part f own ended k =
      same_part grown other w spent there f ended k ∙ same_part s.views id v (view_joining v w) at f own k

  pub join_spelled : spelled pairs s.words (set (set s.views id (view_joining v w)) other spent) ≡ spelled pairs s.words s.views
  join_spelled =
      spelled-same pairs s.words s.views joined (λ k j. join_part (λ u. has u.held j) refl (sym (ap (λ l. has l j) none_held)) k) (λ k j t. join_part (λ u. has_link u.owed j t) refl (sym (ap (λ l. has_link l j t) none_owed)) k)

  both_true : IsTrueView pairs workers s.words (view_joining v w)
  both_true =
      let own = r.views id v at in
      record {
        plan = λ a. own.plan active;
        of = λ a. own.of active;
        seen = seen;
        mine = λ j h. ⊎_elim (λ (e : has v.mine j ≡ true). own.mine j e) (λ (e : has w.mine j ≡ true). (r.views other w was_there).mine j e) (or_cases _ _ (sym (has-append v.mine w.mine j) ∙ h));
        last = own.last;
        spent = λ z. absurd (omega (arith, z, active));
      }
    where
      seen : (slice : ℕ) → slice < max v.seen w.seen → is_taken_in pairs s.words slice ≡ true
      seen slice l = ⊎_elim
          (λ (h : slice < v.seen). (r.views id v at).seen slice h)
          (λ (h : v.seen ≤ slice). (r.views other w was_there).seen slice (omega (arith, h, l)))
          (cases_lt slice v.seen)

  spent_true : IsTrueView pairs workers s.words spent
  spent_true =
      record {
        plan = λ a. absurd (omega (arith, a));
        of = λ a. absurd (omega (arith, a));
        seen = λ slice l. absurd (omega (arith, l));
        mine = λ j h. absurd (false≢true h);
        last = λ look h. absurd (none_is look h);
        spent = λ z. record { held = refl; owed = refl; mine = refl };
      }
    where
      none_is : (look : Look) → ◌≡◌ {A = Option Look} None (Some look) → ⊥
      none_is look h = cc

  join_views : (k : ℕ) (u : View) → get_elem? joined k ≡ maybe.some u → IsTrueView pairs workers s.words u
  join_views =
      each_seat grown other w spent there (IsTrueView pairs workers s.words) (each_seat s.views id v (view_joining v w) at (IsTrueView pairs workers s.words) r.views both_true) spent_true

  join_shares : sum_by (λ (u : View). u.share) joined ≡ workers
  join_shares =
      let first = sum_by-set (λ (u : View). u.share) s.views id (view_joining v w) spent (seat_inside s.views id v at) in
      let first_was : (view_at s.views id).share ≡ v.share = ap (λ (u : View). u.share) (seat_view s.views id v spent at) in
      let second = sum_by-set (λ (u : View). u.share) grown other spent spent (seat_inside grown other w there) in
      let second_was : (view_at grown other).share ≡ w.share = ap (λ (u : View). u.share) (seat_view grown other w spent there) in
      omega (arith, first, first_was, second, second_was, r.shares)

  -- the survivor has what both had decided
  survivor : view_at joined id ≡ view_joining v w
  survivor =
      other_view grown other w spent there id (λ e. apart (sym e)) ∙ new_view s.views id v (view_joining v w) at

  join_owners : (j : ℕ) → IsOfSome s.views j → IsOfSome joined j
  join_owners j h = ⊎_elim
      (λ (e : h.0 ≡ other). (id, ap (λ (u : View). has u.mine j) survivor ∙ has-append v.mine w.mine j ∙ or_right (has v.mine j) _ (ap (λ (u : View). has u.mine j) (sym (seat_view s.views other w spent was_there)) ∙ ap (λ i. has (view_at s.views i).mine j) (sym e) ∙ h.1)))
      (λ (n : h.0 ≡ other → ⊥). still (IsOfSome-set s.views id v (view_joining v w) at j (λ q. has-append v.mine w.mine j ∙ or_left _ (has w.mine j) q) (h.0, h.1)) n)
      (cases_eq h.0 other)
    where
      still : (g : IsOfSome grown j) → (h.0 ≡ other → ⊥) → IsOfSome joined j
      still g n = ⊎_elim
          (λ (e : g.0 ≡ other). (id, ap (λ (u : View). has u.mine j) survivor ∙ has-append v.mine w.mine j ∙ or_right (has v.mine j) _ (ap (λ (u : View). has u.mine j) (sym (seat_view grown other w spent there)) ∙ ap (λ i. has (view_at grown i).mine j) (sym e) ∙ g.1)))
          (λ (m : g.0 ≡ other → ⊥). (g.0, ap (λ (u : View). has u.mine j) (other_view grown other w spent there g.0 m) ∙ g.1))
          (cases_eq g.0 other)

  pub join_kept : KeepsRule pairs workers record { words = s.words; homes = s.homes; views = set (set s.views id (view_joining v w)) other spent }
  join_kept =
      kept_from pairs workers s r joined join_spelled join_views join_shares join_owners

-- a seat that holds and owes nothing may be joined into another
pub joins : (pairs : List Pair) (workers id : ℕ) (v : View) (other : ℕ) (w : View) → 0 < v.share → w.held ≡ [] → w.owed ≡ [] → Joins (KeepsRule pairs workers) id v other w (view_joining v w) spent
joins pairs workers id v other w active none_held none_owed s r at apart there =
    join_kept pairs workers s r id v at active other w apart there none_held none_owed
