-- Two halves of a list, of which so many items are left in each.
use Rattle.std.proofs.Common.{◌≡◌, ℕ, ◌+◌, ◌≤◌, List, ◌++◌, length, map, take, drop, Option, ap, ap₂, sym, ◌∙◌, arith}
use Rattle.std.proofs.lemmas.List.{drop_at, drop-take, length-append, map-append, take-append-drop, take-append-le, take-take}
use Rattle.std.proofs.lemmas.List.Elements.{filter_map-append}
use Rattle.smol_types.specs.declared.draft.Draft.{Draft}
use Rattle.smol_types.specs.declared.state.Mol.{Mol}
use Rattle.smol_meaning.specs.Events.{lone_reaction}
use Rattle.smol_meaning.specs.Motion.{all_diffused, diffused}
use Rattle.smol_step.specs.Diffused.{AreDiffused}

-- so many items are so many of the first ones, and so many of those behind them
pub take_both : {X : Type 0} (xs : List X) (m n : ℕ) → take (m + n) xs ≡ take m xs ++ take n (drop m xs)
take_both xs m n =
    sym (take-append-drop m (take (m + n) xs))
    ∙ ap₂ ◌++◌ (take-take m (m + n) xs (omega arith)) (drop-take m n xs)

-- what is left of both halves
kept_of_both : {X : Type 0} (front back after : List X) (a b middle : ℕ) → length front ≡ middle → a ≤ length front
    → take (a + b) after ≡ take a (front ++ back) ++ take b (drop middle (front ++ back)) → take (a + b) after ≡ take a front ++ take b back
kept_of_both front back after a b middle long within is =
    is ∙ ap₂ ◌++◌ (take-append-le a front back within) (ap (take b) (drop_at front back middle long))

-- what is closed up of two halves that were moved
pub closed_up : (draft : Draft) (seed k : ℕ) (old front back front_after back_after after : List Mol)
    (front_reactions back_reactions reactions : List (Option ℕ)) (a b middle : ℕ)
    → old ≡ front ++ back → length front ≡ middle
    → AreDiffused draft seed k front front_after front_reactions a
    → AreDiffused draft seed k back back_after back_reactions b
    → take (a + b) after ≡ take a (front_after ++ back_after) ++ take b (drop middle (front_after ++ back_after))
    → length after ≡ length (front_after ++ back_after)
    → take (a + b) reactions ≡ take a (front_reactions ++ back_reactions) ++ take b (drop middle (front_reactions ++ back_reactions))
    → length reactions ≡ length (front_reactions ++ back_reactions)
    → AreDiffused draft seed k old after reactions (a + b)
closed_up draft seed k old front back front_after back_after after front_reactions back_reactions reactions a b middle is long one two mols mols_long chosen chosen_long =
    let made = diffused draft seed k in
    let all = ap (all_diffused draft seed k) is ∙ filter_map-append made front back in
    let whole = ap length is ∙ length-append front back in
    record {
      moved = kept_of_both front_after back_after after a b middle (one.count ∙ long) (omega (arith, one.within, one.count)) mols
          ∙ ap₂ ◌++◌ one.moved two.moved ∙ sym all;
      chosen = kept_of_both front_reactions back_reactions reactions a b middle (one.beside ∙ long) (omega (arith, one.within, one.beside)) chosen
          ∙ ap₂ ◌++◌ one.chosen two.chosen
          ∙ sym (ap (map (lone_reaction draft seed k)) all ∙ map-append (lone_reaction draft seed k) (all_diffused draft seed k front) (all_diffused draft seed k back));
      within = omega (arith, one.within, two.within, whole);
      count = omega (arith, mols_long, length-append front_after back_after, one.count, two.count, whole);
      beside = omega (arith, chosen_long, length-append front_reactions back_reactions, one.beside, two.beside, whole);
    }
