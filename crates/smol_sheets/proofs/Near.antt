-- The panels near a cuboid.
use Rattle.std.proofs.Common.{◌≡◌, ℕ, ◌<◌, ◌↔◌, List, [], ◌∷◌, ◌++◌, length, get_or, refl, sym, ◌∙◌, ap, subst}
use Rattle.std.specs.Prelude.{map, All, Contains, Some, slice_get}
use Rattle.std.proofs.lemmas.List.{get_or_append_left, get_or-map, length-map}
use Rattle.std.proofs.lemmas.List.Elements.{Contains-get_or}
use Rattle.std.proofs.lemmas.Option.{get_or_from_slice_get}
use Rattle.smol_geom.specs.declared.cuboid.Cuboid.{Cuboid}
use Rattle.smol_geom.specs.declared.rect.Rect.{Rect}
use Rattle.smol_types.specs.declared.draft.Draft.{Draft}
use Rattle.smol_types.specs.declared.surface.Panel.{Panel}
use Rattle.smol_types.specs.Sound.{IsSound}
use Rattle.smol_cells.specs.declared.cells.Cells.{Cells}
use Rattle.smol_cells.specs.Meeting.{MeetsBetween, rect_at}
use Rattle.smol_cells.specs.Numbered.{boxes_of_cuboid, boxes_of_rect}
use Rattle.smol_cells.specs.Ranges.{near_of}
use Rattle.smol_cells.proofs.NearLists.{meeting_of_met, met_near, near_shared}
use Rattle.smol_meaning.specs.declared.sheet.Sheet.{Sheet}
use Rattle.smol_meaning.specs.declared.sheet.Sheet.TheVariants.{Rectangle}
use Rattle.smol_meaning.specs.Folds.{IsPanelRect}
use Rattle.smol_meaning.proofs.Seeing.{rects_fit}
use Rattle.smol_sheets.specs.Sheets.{IsReached, rect_of, sheets_of}
use Rattle.smol_sheets.proofs.Numbered.{panel_sheet, wall_sheet, sheets_are}

as_rects : (panels : List Panel) → map panel_sheet panels ≡ map Rectangle (map rect_of panels)
as_rects [] = refl
as_rects (panel ∷ panels) = λ i. Rectangle panel.rect ∷ as_rects panels i

module _ (draft : Draft) (number : ℕ) (below : number < length draft.panels) where
  abbrev rects : List Rect
  rects = map rect_of draft.panels

  inside : number < length rects
  inside = subst (λ k. number < k) (sym (length-map draft.panels rect_of)) below

  -- the sheet of a panel's number is the panel's rectangle
  pub sheet_is : (sheet : Sheet) → slice_get (sheets_of draft) number ≡ Some sheet → Rectangle (rect_at rects number) ≡ sheet
  sheet_is sheet at =
      let first = map Rectangle rects in
      let behind = map wall_sheet draft.walls in
      let counted : number < length first = subst (λ k. number < k) (sym (length-map rects Rectangle)) inside in
      sym (get_or-map Rectangle rects number _ sheet inside)
      ∙ sym (get_or_append_left first behind sheet number counted)
      ∙ ap (λ xs. get_or (xs ++ behind) number sheet) (sym (as_rects draft.panels))
      ∙ ap (λ xs. get_or xs number sheet) (sym (sheets_are draft))
      ∙ get_or_from_slice_get (sheets_of draft) number sheet sheet at

  pub fits_at : IsSound draft → IsPanelRect (rect_at rects number)
  fits_at sound = rects_fit draft sound number _ inside

-- what is near is known, and each panel that meets the cuboid is near
module _ (draft : Draft) (cells : Cells) (left : List ℕ) (c limits : Cuboid)
    (says : (index : ℕ) → Contains left index ↔ Contains (near_of (map (boxes_of_rect cells.grid) (map rect_of draft.panels)) (boxes_of_cuboid cells.grid limits)) index) where
  pub near_known : All (λ (number : ℕ). number < length draft.panels) left
  near_known = λ k d l.
      let number = get_or left k d in
      let near = (says number).0 (Contains-get_or left k d l) in
      subst (λ n. number < n) (length-map (map rect_of draft.panels) (boxes_of_rect cells.grid) ∙ length-map draft.panels rect_of)
      ((near_shared (map (boxes_of_rect cells.grid) (map rect_of draft.panels)) (boxes_of_cuboid cells.grid limits) number).0 near).0

  pub near_met : IsSound draft → ((rect : Rect) → IsPanelRect rect → MeetsBetween c rect.low rect.high → MeetsBetween limits rect.low rect.high)
      → (number : ℕ) (sheet : Sheet) → number < length draft.panels → slice_get (sheets_of draft) number ≡ Some sheet → IsReached c sheet → Contains left number
  near_met sound meets number sheet below at reached =
      let rect = rect_at (map rect_of draft.panels) number in
      let met : MeetsBetween c rect.low rect.high = subst (IsReached c) (sym (sheet_is draft number below sheet at)) reached in
      (says number).1 (met_near cells.grid (map rect_of draft.panels) (boxes_of_rect cells.grid) _ limits number (inside draft number below)
      (meeting_of_met cells.grid limits rect.low rect.high (meets rect (fits_at draft number below sound) met)))
