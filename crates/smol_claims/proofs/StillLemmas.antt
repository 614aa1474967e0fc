-- A step that changes no word, and neither what its seat holds nor what it owes, keeps the rule.
use Rattle.std.proofs.Common.{◌≡◌, ℕ, List, get_or, set, sym, ◌∙◌, ap, subst}
use Rattle.std.proofs.lemmas.List.{set-get_or}
use mathlib.Core.Option as maybe
use lib.ListN.{get_elem?}
use Rattle.smol_plan.specs.declared.pair.Pair.{Pair}
use Rattle.smol_plan.specs.Machine.{State, left_of}
use Rattle.smol_plan.specs.Good.{Good}
use Rattle.smol_claims.specs.declared.view.View.{View}
use Rattle.smol_claims.specs.View.{has, has_link}
use Rattle.smol_claims.specs.Spelled.{spelled}
use Rattle.smol_claims.specs.Rule.{WordsAndViews, IsTrueView, KeepsRule}
use Rattle.smol_claims.proofs.SeatLemmas.{spelled-same, same_part, each_seat, shares-same, IsOfSome-set}

-- after the seat's view becomes w and a word becomes n
abbrev pub after_step : WordsAndViews → ℕ → ℕ → ℕ → View → WordsAndViews
after_step s i n id w = record { words = set s.words i n; homes = s.homes; views = set s.views id w }

-- the seat's new view says of it what it said
pub record IsStill (v w : View) : Type 0 where
  pub held : w.held ≡ v.held
  pub owed : w.owed ≡ v.owed
  pub mine : w.mine ≡ v.mine
  pub share : w.share ≡ v.share

module _ (pairs : List Pair) (workers : ℕ) (s : WordsAndViews) (r : KeepsRule pairs workers s) (id : ℕ) (v w : View) (at : get_elem? s.views id ≡ maybe.some v) (still : IsStill v w) where
  -- the state that is spelled is the same
  pub still_spelled : spelled pairs s.words (set s.views id w) ≡ spelled pairs s.words s.views
  still_spelled =
      spelled-same pairs s.words s.views (set s.views id w) (λ k j. same_part s.views id v w at (λ u. has u.held j) (ap (λ l. has l j) still.held) k) (λ k j t. same_part s.views id v w at (λ u. has_link u.owed j t) (ap (λ l. has_link l j t) still.owed) k)

  pub still_kept : IsTrueView pairs workers s.words w → KeepsRule pairs workers record { words = s.words; homes = s.homes; views = set s.views id w }
  still_kept own =
      record {
        wide = r.wide;
        first = r.first;
        slices = r.slices;
        good = subst (Good pairs) (sym still_spelled) r.good;
        counters = λ j l. r.counters j l ∙ ap (λ (x : State). left_of pairs x j) (sym still_spelled);
        codes = r.codes;
        views = each_seat s.views id v w at (IsTrueView pairs workers s.words) r.views own;
        shares = shares-same s.views id v w at still.share ∙ r.shares;
        owners = λ j e. IsOfSome-set s.views id v w at j (λ h. ap (λ l. has l j) still.mine ∙ h) (r.owners j e);
      }

  -- so it is where a word is written as it was
  pub still_step : (i n : ℕ) → get_or s.words i 0 ≡ n → IsTrueView pairs workers s.words w → KeepsRule pairs workers (after_step s i n id w)
  still_step i n e own =
      subst (λ (words : List ℕ). KeepsRule pairs workers record { words = words; homes = s.homes; views = set s.views id w }) (sym (ap (set s.words i) (sym e) ∙ set-get_or s.words i 0)) (still_kept own)

  pub still_step_spelled : (i n : ℕ) → get_or s.words i 0 ≡ n → spelled pairs (set s.words i n) (set s.views id w) ≡ spelled pairs s.words s.views
  still_step_spelled i n e =
      ap (λ words. spelled pairs words (set s.views id w)) (ap (set s.words i) (sym e) ∙ set-get_or s.words i 0) ∙ still_spelled
