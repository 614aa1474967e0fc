-- The words and the one view of a matching of which nothing has happened meet the rule.
use Rattle.std.proofs.Common.{◌≡◌, ℕ, zero, suc, ◌<◌, ◌≤◌, false, List, [], ◌∷◌, Option, Some, None, refl, sym, ◌∙◌, ap, subst, inl, ⊎_elim, arith}
use Rattle.std.specs.Option.{is_some}
use Rattle.std.proofs.lemmas.Bool.{cases_lt, le-ltb, lt-ltb, false≢true}
use mathlib.Core.Option as maybe
use lib.ListN.{get_elem?}
use Rattle.atomic_table.specs.Table.{opening}
use Rattle.smol_plan.specs.declared.pair.Pair.{Pair}
use Rattle.smol_plan.specs.declared.pair.Side.{Side}
use Rattle.smol_plan.specs.Links.{source_of}
use Rattle.smol_plan.specs.Machine.{State, first_state, slice_count, left_of}
use Rattle.smol_plan.specs.PairState.{fired_of}
use Rattle.smol_plan.specs.Good.{Good}
use Rattle.smol_plan.proofs.GoodKept.{Good-first}
use Rattle.smol_plan.proofs.StateLemmas.{State-same}
use Rattle.smol_claims.specs.declared.view.Look.{Look}
use Rattle.smol_claims.specs.declared.view.View.{View}
use Rattle.smol_claims.specs.View.{has, has_link, newcomer, view_at}
use Rattle.smol_claims.specs.Layout.{slice_at, decision_at}
use Rattle.smol_claims.specs.Code.{decision_in}
use Rattle.smol_claims.specs.Spelled.{is_taken_in, fired_in, is_decided_in, spelled}
use Rattle.smol_claims.specs.Rule.{IsTrueView, KeepsRule}
use Rattle.smol_claims.specs.Fresh.{AreFresh}

module _ (pairs : List Pair) (workers : ℕ) (some : 1 ≤ workers) (words : List ℕ) (fresh : AreFresh pairs words) where
  abbrev views : List View
  views = newcomer pairs workers workers ∷ []

  untaken : (k : ℕ) → is_taken_in pairs words k ≡ false
  untaken k = ⊎_elim
      (λ (l : k < slice_count pairs). rw (lt-ltb _ _ l, fresh.before (slice_at k) (omega (arith, l))) refl)
      (λ (l : slice_count pairs ≤ k). rw (le-ltb _ _ l) refl)
      (cases_lt k (slice_count pairs))

  undecided : (j : ℕ) → fired_in pairs words j ≡ None
  undecided j = ap (λ x. fired_of (decision_in x)) (fresh.behind (decision_at pairs j) (omega arith))

  no_source : (o : Option ℕ) → is_decided_in pairs words o ≡ false
  no_source None = refl
  no_source (Some i) = ap is_some (undecided i)

  none_held : (w j : ℕ) → has (view_at views w).held j ≡ false
  none_held zero j = refl
  none_held (suc w) j = refl

  none_owed : (w j : ℕ) (t : Side) → has_link (view_at views w).owed j t ≡ false
  none_owed zero j t = refl
  none_owed (suc w) j t = refl

  pub opening_spelled : spelled pairs words (newcomer pairs workers workers ∷ []) ≡ first_state
  opening_spelled =
      State-same (spelled pairs words views) first_state untaken undecided (λ j t. rw (no_source (source_of pairs j t)) refl) none_held none_owed

  first_true : IsTrueView pairs workers words (newcomer pairs workers workers)
  first_true =
      record {
        plan = λ a. refl;
        of = λ a. refl;
        seen = λ slice l. absurd (omega (arith, l));
        mine = λ j h. absurd (false≢true h);
        last = λ look h. absurd (none_is look h);
        spent = λ z. absurd (omega (arith, z, some));
      }
    where
      none_is : (look : Look) → ◌≡◌ {A = Option Look} None (Some look) → ⊥
      none_is look h = cc

  only_first : (k : ℕ) (u : View) → get_elem? views k ≡ maybe.some u → IsTrueView pairs workers words u
  only_first zero u e =
      subst (IsTrueView pairs workers words) (maybe.some-injective (newcomer pairs workers workers) u e) first_true
  only_first (suc k) u e = absurd (maybe.some-ne-none u (sym e))

  pub opens : KeepsRule pairs workers (opening words [] (newcomer pairs workers workers))
  opens =
      record {
        wide = fresh.wide;
        first = fresh.before 0 (omega arith);
        slices = λ k l. omega (arith, fresh.before (slice_at k) (omega (arith, l)));
        good = subst (Good pairs) (sym opening_spelled) (Good-first pairs);
        counters = λ j l. fresh.counters j l ∙ ap (λ (x : State). left_of pairs x j) (sym opening_spelled);
        codes = λ j l. inl (fresh.behind (decision_at pairs j) (omega arith));
        views = only_first;
        shares = omega arith;
        owners = λ j h. absurd (false≢true (sym (ap is_some (undecided j)) ∙ h));
      }
