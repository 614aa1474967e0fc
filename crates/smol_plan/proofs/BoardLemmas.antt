-- What the standings of a board say of its state.
use Rattle.std.proofs.Common.{◌≡◌, ℕ, ◌<◌, true, false, ◌&&◌, nat_le, nat_lt, List, length, set, get_or-set_same, get_or-set_other, Option, Some, refl, sym, ◌∙◌, ⊎_elim, if◌then◌else◌}
use Rattle.std.proofs.lemmas.Bool.{cases_eq}
use Rattle.smol_plan.specs.declared.pair.Pair.{Pair}
use Rattle.smol_plan.specs.declared.pair.Side.{Side}
use Rattle.smol_plan.specs.declared.pair.Side.TheVariants.{Low, High}
use Rattle.smol_plan.specs.declared.pair_state.PairState.{PairState}
use Rattle.smol_plan.specs.Pair.{molecule_at}
use Rattle.smol_plan.specs.Links.{source_of, comes_by}
use Rattle.smol_plan.specs.Machine.{has_no_link}
use Rattle.smol_plan.specs.PairState.{fresh, set_ower}
use Rattle.smol_plan.specs.Board.{standing_at, after_owing}
use Rattle.smol_plan.proofs.SideLemmas.{low_is_high}
use Rattle.smol_plan.proofs.NextLemmas.{comes_by_next, comes_by_other}

-- the standing of the pair j after those from start to below end were given to the worker where they wait for no other
abbrev pub given_up_to : List Pair → ℕ → ℕ → ℕ → ℕ → PairState → PairState
given_up_to pairs worker start end j s =
    if (nat_le start j && nat_lt j end) && has_no_link pairs j then record s { holder = Some worker } else s

-- the link that comes from a pair by a molecule is the one after it
module _ (pairs : List Pair) (standings : List PairState) (pair : ℕ) (side : Side) (worker next : ℕ) (next_side : Side) (inside : next < length standings) (on_side : molecule_at pairs next next_side ≡ molecule_at pairs pair side) (undone : source_of pairs next next_side ≡ Some pair) (undoes : (k : ℕ) (s : Side) → molecule_at pairs k s ≡ molecule_at pairs pair side → source_of pairs k s ≡ Some pair → ◌≡◌ {A = Option (ℕ × Side)} (Some (next, next_side)) (Some (k, s))) where
  other : (k : ℕ) (s : Side) → (next ≡ k → next_side ≡ s → ⊥) → comes_by pairs pair side k s ≡ false
  other = comes_by_other pairs pair side next next_side on_side undone undoes

  owing_next : (t : Side) → next_side ≡ t → set_ower (standing_at standings next) t (Some worker) ≡ after_owing pairs pair side worker next (standing_at standings next)
  owing_next Low e =
      let yes_low : comes_by pairs pair side next Low ≡ true = rw (← e) (comes_by_next pairs pair side next next_side on_side undone undoes) in
      rw (yes_low, other next High (λ _ h. low_is_high (sym e ∙ h))) refl
  owing_next High e =
      let yes_high : comes_by pairs pair side next High ≡ true = rw (← e) (comes_by_next pairs pair side next next_side on_side undone undoes) in
      rw (yes_high, other next Low (λ _ h. low_is_high (sym h ∙ e))) refl

  pub after_owing-set : (next_standing : PairState) → next_standing ≡ set_ower (standing_at standings next) next_side (Some worker) → (k : ℕ) → standing_at (set standings next next_standing) k ≡ after_owing pairs pair side worker k (standing_at standings k)
  after_owing-set next_standing is k = ⊎_elim
      (λ (e : k ≡ next). rw e (get_or-set_same standings next next_standing fresh inside ∙ is ∙ owing_next next_side refl))
      (λ (n : k ≡ next → ⊥). get_or-set_other standings next k next_standing fresh n ∙ rw (other k Low (λ h _. n (sym h)), other k High (λ h _. n (sym h))) refl)
      (cases_eq k next)
