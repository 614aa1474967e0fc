-- The walks through panels and walls for one that bars.
use Rattle.std.proofs.Common.{◌≡◌, ℕ, ◌+◌, ◌<◌, ◌≤◌, ⊎_elim, Bool, true, false, List, [], ◌∷◌, length, get_or, refl, sym, ◌∙◌, ap, subst, arith, pos}
use Rattle.std.specs.Prelude.{Contains, Some, slice_get}
use Rattle.std.proofs.lemmas.Bool.{and_parts, both_ways, false_from_ne_true}
use Rattle.std.proofs.lemmas.Int.{by_lt_z, ints}
use Rattle.std.proofs.lemmas.List.{get_or-map, length-map}
use Rattle.std.proofs.lemmas.List.Elements.{All-from_get_or}
use Rattle.std.proofs.lemmas.List.Folds.{list_any_at, list_any_none}
use Rattle.std.proofs.lemmas.Option.{slice_get-get_or, slice_get_within, get_or_from_slice_get}
use Rattle.smol_geom.specs.declared.cuboid.Cuboid.{Cuboid}
use Rattle.smol_geom.specs.declared.place.Place.{Place}
use Rattle.smol_types.specs.declared.draft.Draft.{Draft}
use Rattle.smol_cells.proofs.Members.{contains_of_has, has_of_contains}
use Rattle.smol_meaning.specs.declared.sheet.Sheet.{Sheet}
use Rattle.smol_meaning.specs.Plates.{Plate}
use Rattle.smol_meaning.specs.Seen.{plates_of}
use Rattle.smol_meaning.specs.Sight.{bars, is_barred, line_meets}
use Rattle.smol_sheets.specs.Sheets.{AreAmong, HasBoth, IsReached, NoneBars, sheet_of, sheets_of}
use Rattle.smol_sheets.proofs.Numbered.{nowhere, sheet_count}
use Rattle.smol_sheets.proofs.Stretches.{line_reached}

by_lt : {P : Type 0} (a b : ℕ) → (a < b → P) → (b ≤ a → P) → P
by_lt a b less more = by_lt_z (pos a) (pos b) (λ h. less (omega (arith, ints, h))) (λ h. more (omega (arith, ints, h)))

plate_count : (draft : Draft) → length (plates_of draft) ≡ length draft.panels + length draft.walls
plate_count draft = sym (length-map (plates_of draft) sheet_of) ∙ sheet_count draft

sheet_got : (draft : Draft) (n : ℕ) (plate : Plate) → slice_get (plates_of draft) n ≡ Some plate → slice_get (sheets_of draft) n ≡ Some plate.sheet
sheet_got draft n plate at =
    let within = slice_get_within (plates_of draft) n plate at in
    slice_get-get_or (sheets_of draft) n plate.sheet (subst (λ k. n < k) (sym (length-map (plates_of draft) sheet_of)) within)
    ∙ ap (λ (sheet : Sheet). Some sheet) (get_or-map sheet_of (plates_of draft) n plate plate.sheet within
    ∙ ap sheet_of (get_or_from_slice_get (plates_of draft) n plate plate at))

module _ (draft : Draft) (species : ℕ) (a b : Place) where
  -- at first each panel that bars is among the near ones
  pub all_among : (c : Cuboid) (left : List ℕ) → HasBoth c a b
      → ((n : ℕ) (sheet : Sheet) → n < length draft.panels → slice_get (sheets_of draft) n ≡ Some sheet → IsReached c sheet → Contains left n)
      → AreAmong draft species a b left
  all_among c left both near = λ n plate below at barred.
      near n plate.sheet below (sheet_got draft n plate at)
      (line_reached c a b plate.sheet both (and_parts (line_meets plate.sheet a b) _ barred).0)

  -- one that doesn't bar can be left out
  pub one_less : (old left : List ℕ) (number : ℕ) (t : Bool) → old ≡ number ∷ left → AreAmong draft species a b old
      → ((plate : Plate) → slice_get (plates_of draft) number ≡ Some plate → t ≡ bars species a b plate) → t ≡ false → AreAmong draft species a b left
  one_less old left number t is among says none = λ n plate below at barred.
      ⊎_elim
      (λ (same : number ≡ n). absurd (both_ways _ none (says plate (subst (λ k. slice_get (plates_of draft) k ≡ Some plate) (sym same) at) ∙ barred)))
      (λ more. contains_of_has left n more)
      (has_of_contains (number ∷ left) n (subst (λ xs. Contains xs n) is (among n plate below at barred)))

  -- where none is left, none bars
  pub none_left : (first : ℕ) (left : List ℕ) → left ≡ [] → first ≤ length draft.panels → AreAmong draft species a b left → NoneBars draft species a b 0 first
  none_left first left is some among = λ n plate from below at.
      false_from_ne_true (bars species a b plate)
      (λ barred. has_of_contains [] n (subst (λ xs. Contains xs n) is (among n plate (omega (arith, below, some)) at barred)))

  -- one that bars is enough
  pub one_bars : (number : ℕ) (t : Bool) → number < length draft.panels + length draft.walls
      → ((plate : Plate) → slice_get (plates_of draft) number ≡ Some plate → t ≡ bars species a b plate) → t ≡ true → is_barred draft species a b ≡ true
  one_bars number t below says met =
      let within = subst (λ k. number < k) (sym (plate_count draft)) below in
      list_any_at (bars species a b) (plates_of draft) number nowhere within
      (sym (says (get_or (plates_of draft) number nowhere) (slice_get-get_or (plates_of draft) number nowhere within)) ∙ met)

  pub one_more : (first number : ℕ) (t : Bool) → NoneBars draft species a b first number
      → ((plate : Plate) → slice_get (plates_of draft) number ≡ Some plate → t ≡ bars species a b plate) → t ≡ false → NoneBars draft species a b first (number + 1)
  one_more first number t none says not = λ n plate from below at.
      false_from_ne_true (bars species a b plate) (λ barred.
      let here : n ≡ number = omega (arith, below, earlier n plate from at barred) in
      both_ways _ not (says plate (subst (λ k. slice_get (plates_of draft) k ≡ Some plate) here at) ∙ barred))
    where
      earlier : (n : ℕ) (plate : Plate) → first ≤ n → slice_get (plates_of draft) n ≡ Some plate → bars species a b plate ≡ true → number ≤ n
      earlier n plate from at barred = by_lt n number (λ below. absurd (both_ways _ (none n plate from below at) barred)) (λ past. past)

  -- those from a number on decide where none before it bars
  pub rest_decides : (first : ℕ) (t : Bool) → first ≤ length draft.panels → NoneBars draft species a b 0 first → (t ≡ true → is_barred draft species a b ≡ true)
      → (t ≡ false → NoneBars draft species a b first (length draft.panels + length draft.walls)) → t ≡ is_barred draft species a b
  rest_decides first true some before barred free = sym (barred refl)
  rest_decides first false some before barred free =
      sym (list_any_none (bars species a b) (plates_of draft) (All-from_get_or (λ plate. bars species a b plate ≡ false) (plates_of draft) nowhere
      (λ n within.
      let at = slice_get-get_or (plates_of draft) n nowhere within in
      by_lt n first
      (λ below. before n _ (omega arith) below at)
      (λ past. free refl n _ past (subst (λ k. n < k) (plate_count draft) within) at))))
