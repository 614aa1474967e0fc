-- The link that comes from a pair by a molecule is the one that is next after it.
use Rattle.std.proofs.Common.{◌≡◌, ℕ, true, false, List, Option, Some, refl, ap}
use Rattle.std.proofs.lemmas.Bool.{and_from, and_parts, eq-eqb, eqb-true, false_from_ne_true}
use Rattle.smol_plan.specs.declared.pair.Pair.{Pair}
use Rattle.smol_plan.specs.declared.pair.Side.{Side}
use Rattle.smol_plan.specs.Pair.{molecule_at}
use Rattle.smol_plan.specs.Links.{source_of, comes_by}
use Rattle.smol_plan.proofs.GoodKept.{is_number_from}

module _ (pairs : List Pair) (pair : ℕ) (side : Side) (next : ℕ) (next_side : Side) (on_side : molecule_at pairs next next_side ≡ molecule_at pairs pair side) (undone : source_of pairs next next_side ≡ Some pair) (undoes : (k : ℕ) (s : Side) → molecule_at pairs k s ≡ molecule_at pairs pair side → source_of pairs k s ≡ Some pair → ◌≡◌ {A = Option (ℕ × Side)} (Some (next, next_side)) (Some (k, s))) where
  -- the next one comes from the pair by the molecule
  pub comes_by_next : comes_by pairs pair side next next_side ≡ true
  comes_by_next = and_from _ _ (rw (undone, eq-eqb pair pair refl) refl) (eq-eqb _ _ on_side)

  -- and no other does
  pub comes_by_only : (k : ℕ) (s : Side) → comes_by pairs pair side k s ≡ true → ◌≡◌ {A = ℕ × Side} (next, next_side) (k, s)
  comes_by_only k s e =
      let parts = and_parts _ _ e in
      let both : ◌≡◌ {A = Option (ℕ × Side)} (Some (next, next_side)) (Some (k, s)) = undoes k s (eqb-true _ _ parts.1) (is_number_from pair _ parts.0) in
      cc

  pub comes_by_other : (k : ℕ) (s : Side) → (next ≡ k → next_side ≡ s → ⊥) → comes_by pairs pair side k s ≡ false
  comes_by_other k s n =
      false_from_ne_true _ (λ e. let both = comes_by_only k s e in n (ap (λ x. x.0) both) (ap (λ x. x.1) both))
