-- Molecules that react together, pair by pair.
use Rattle.std.proofs.Common.{◌≡◌, ◌≢◌, ℕ, ◌<◌, Bool, true, false, not, ◌&&◌, ◌||◌, ◌==◌, List, [], ◌∷◌, ◌++◌, length, get_or, set, map, Some, slice_get, refl, ap, sym, ◌∙◌, ⊎_elim, arith}
use Rattle.std.proofs.lemmas.Bool.{cases_eq}
use Rattle.std.proofs.lemmas.Bool.Decides.{nat_tests}
use Rattle.std.proofs.lemmas.List.Folds.{list_any-append}
use Rattle.std.proofs.lemmas.List.{get_or-map, get_or-set_other, get_or-set_same, length-map, length-set, same_lists}
use Rattle.std.proofs.lemmas.Option.{get_or_from_slice_get, same_Some, slice_get-get_or}
use Rattle.smol_types.specs.declared.draft.Draft.{Draft}
use Rattle.smol_types.specs.declared.state.Mol.{Mol}
use Rattle.smol_types.specs.State.{Ascend}
use Rattle.smol_meaning.specs.Encounters.{Encounter, takes_part}
use Rattle.smol_meaning.specs.Events.{is_free}
use Rattle.smol_meaning.specs.Meeting.{IsEncounter}
use Rattle.smol_meaning.specs.Step.{remains}
use Rattle.smol_meaning.proofs.Kept.{Ascend-one}

-- whether a molecule takes part in one encounter
abbrev is_part : Encounter → Mol → Bool
is_part e mol = (e.a.serial == mol.serial) || (e.b.serial == mol.serial)

or_nothing : (a : Bool) → a || false ≡ a
or_nothing true = refl
or_nothing false = refl

takes_more : (es : List Encounter) (e : Encounter) (mol : Mol) → takes_part (es ++ e ∷ []) mol ≡ takes_part es mol || is_part e mol
takes_more es e mol =
    list_any-append (λ (e : Encounter). is_part e mol) es (e ∷ []) ∙ ap (λ b. takes_part es mol || b) (or_nothing (is_part e mol))

gone : (free before : Bool) → free && not (before || true) ≡ false
gone true true = refl
gone true false = refl
gone false true = refl
gone false false = refl

module _ (draft : Draft) (seed k : ℕ) where
  -- a molecule that takes part in the next encounter goes
  remains_gone : (es : List Encounter) (e : Encounter) (mol : Mol) → is_part e mol ≡ true → remains draft seed k (es ++ e ∷ []) mol ≡ false
  remains_gone es e mol part =
      ap (λ b. is_free draft seed k mol && not b) (takes_more es e mol ∙ ap (λ b. takes_part es mol || b) part) ∙ gone (is_free draft seed k mol) (takes_part es mol)

  -- another one stays as it was
  remains_same : (es : List Encounter) (e : Encounter) (mol : Mol) → is_part e mol ≡ false → remains draft seed k (es ++ e ∷ []) mol ≡ remains draft seed k es mol
  remains_same es e mol part =
      ap (λ b. is_free draft seed k mol && not b) (takes_more es e mol ∙ ap (λ b. takes_part es mol || b) part ∙ or_nothing (takes_part es mol))

  part_first : (e : Encounter) (mol : Mol) → e.a.serial ≡ mol.serial → is_part e mol ≡ true
  part_first e mol is = grind (arith, nat_tests)

  part_second : (e : Encounter) (mol : Mol) → e.b.serial ≡ mol.serial → is_part e mol ≡ true
  part_second e mol is = grind (arith, nat_tests)

  no_part : (e : Encounter) (mol : Mol) → e.a.serial ≢ mol.serial → e.b.serial ≢ mol.serial → is_part e mol ≡ false
  no_part e mol first second = grind (arith, nat_tests)

  -- at each place of the list, whether its molecule is free after one encounter more
  module _ (mols : List Mol) (next : ℕ) (ascend : Ascend 0 next mols) (es : List Encounter) (e : Encounter) (met : IsEncounter draft seed k mols e) (free : List Bool)
      (before : free ≡ map (remains draft seed k es) mols) (j : ℕ) (d : Bool) (within : j < length mols) (mol : Mol) (at : slice_get mols j ≡ Some mol) where
    free_at : get_or free j d ≡ remains draft seed k es mol
    free_at =
        ap (λ bs. get_or bs j d) before ∙ get_or-map (remains draft seed k es) mols j mol d within
        ∙ ap (remains draft seed k es) (get_or_from_slice_get mols j mol mol at)

    long : length free ≡ length mols
    long = ap length before ∙ length-map mols (remains draft seed k es)

    after_at : get_or (set (set free e.rank_a false) e.rank_b false) j d ≡ remains draft seed k (es ++ e ∷ []) mol
    after_at =
        ⊎_elim
        (λ (is_second : j ≡ e.rank_b).
        let same = ap (λ (mol : Mol). mol.serial) (same_Some e.b mol (sym met.second ∙ ap (slice_get mols) (sym is_second) ∙ at)) in
        let inside : e.rank_b < length (set free e.rank_a false) = omega (arith, length-set free e.rank_a false, long, is_second, within) in
        ap (λ n. get_or (set (set free e.rank_a false) e.rank_b false) n d) is_second
        ∙ get_or-set_same (set free e.rank_a false) e.rank_b false d inside
        ∙ sym (remains_gone es e mol (part_second e mol same)))
        (λ (not_second : j ≢ e.rank_b).
        get_or-set_other (set free e.rank_a false) e.rank_b j false d not_second
        ∙ ⊎_elim
        (λ (is_first : j ≡ e.rank_a).
        let same = ap (λ (mol : Mol). mol.serial) (same_Some e.a mol (sym met.first ∙ ap (slice_get mols) (sym is_first) ∙ at)) in
        let inside : e.rank_a < length free = omega (arith, long, is_first, within) in
        ap (λ n. get_or (set free e.rank_a false) n d) is_first
        ∙ get_or-set_same free e.rank_a false d inside
        ∙ sym (remains_gone es e mol (part_first e mol same)))
        (λ (not_first : j ≢ e.rank_a).
        get_or-set_other free e.rank_a j false d not_first ∙ free_at
        ∙ sym (remains_same es e mol (no_part e mol
        (λ same. not_first (sym (Ascend-one 0 next e.rank_a j mols e.a mol ascend met.first at same)))
        (λ same. not_second (sym (Ascend-one 0 next e.rank_b j mols e.b mol ascend met.second at same))))))
        (cases_eq j e.rank_a))
        (cases_eq j e.rank_b)

  -- after one encounter more its two molecules are free no more
  pub free_more : (mols : List Mol) (next : ℕ) (es : List Encounter) (e : Encounter) (free : List Bool) → Ascend 0 next mols → IsEncounter draft seed k mols e
      → free ≡ map (remains draft seed k es) mols
      → set (set free e.rank_a false) e.rank_b false ≡ map (remains draft seed k (es ++ e ∷ [])) mols
  free_more mols next es e free ascend met before =
      let count : length (set (set free e.rank_a false) e.rank_b false) ≡ length mols =
      length-set (set free e.rank_a false) e.rank_b false ∙ length-set free e.rank_a false ∙ ap length before ∙ length-map mols (remains draft seed k es) in
      let nobody : Mol = record { serial = 0; species = 0; place = record { 0 = [] } } in
      same_lists _ _ (count ∙ sym (length-map mols (remains draft seed k (es ++ e ∷ [])))) (λ j d inside.
      let within : j < length mols = omega (arith, count, inside) in
      after_at mols next ascend es e met free before j d within (get_or mols j nobody) (slice_get-get_or mols j nobody within)
      ∙ sym (get_or-map (remains draft seed k (es ++ e ∷ [])) mols j nobody d within))
