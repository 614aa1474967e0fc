-- The panels and walls of a configuration by their numbers.
use Rattle.std.proofs.Common.{◌≡◌, ℕ, ◌+◌, ◌-◌, ◌<◌, ◌≤◌, List, [], ◌∷◌, ◌++◌, length, get_or, refl, sym, ◌∙◌, ap, subst, arith, pos}
use Rattle.std.specs.Prelude.{map, All, Some, IfSome, slice_get}
use Rattle.std.specs.List.{enumerate_from}
use Rattle.std.proofs.lemmas.List.{get_or-append_right, get_or_append_left, get_or-map, length-append, length-map, map-append}
use Rattle.std.proofs.lemmas.List.Elements.{All-map}
use Rattle.std.proofs.lemmas.List.FromFn.{length-enumerate_from, get_or-enumerate_from}
use Rattle.std.proofs.lemmas.Option.{slice_get-get_or, slice_get_within, get_or_from_slice_get}
use Rattle.smol_types.specs.declared.draft.Draft.{Draft}
use Rattle.smol_types.specs.declared.surface.Panel.{Panel}
use Rattle.smol_types.specs.declared.wall.Wall.{Wall}
use Rattle.smol_types.specs.Sound.{IsSound}
use Rattle.smol_meaning.specs.declared.sheet.Sheet.{Sheet}
use Rattle.smol_meaning.specs.declared.sheet.Sheet.TheVariants.{Rectangle, Plane}
use Rattle.smol_meaning.specs.declared.way.Response.TheVariants.{Pass}
use Rattle.smol_meaning.specs.Folds.{IsSheet, IsWallPlane}
use Rattle.smol_meaning.specs.Plates.{Plate}
use Rattle.smol_meaning.specs.Seen.{panel_plate, wall_plate, plates_of, opposite_of}
use Rattle.smol_meaning.proofs.Seeing.{all_found, plates_fit, wall_planes_fit}
use Rattle.smol_sheets.specs.Sheets.{sheet_of, sheets_of}

abbrev pub panel_sheet : Panel → Sheet
panel_sheet panel = Rectangle panel.rect

abbrev pub wall_sheet : Wall → Sheet
wall_sheet wall = Plane wall.axis wall.plane

-- where numbered elements stand, whatever their numbers
numbered_sheets : {X : Type 0} → (plate : ℕ × X → Plate) (sheet : X → Sheet) → ((entry : ℕ × X) → sheet_of (plate entry) ≡ sheet entry.1) → (n : ℕ) (xs : List X)
    → map sheet_of (map plate (enumerate_from n xs)) ≡ map sheet xs
numbered_sheets plate sheet stands n [] = refl
numbered_sheets plate sheet stands n (x ∷ xs) =
    λ i. stands (n, x) i ∷ numbered_sheets plate sheet stands (n + 1) xs i

-- the sheets are those of the panels, and behind them those of the walls
pub sheets_are : (draft : Draft) → sheets_of draft ≡ map panel_sheet draft.panels ++ map wall_sheet draft.walls
unfolding plates_of
sheets_are draft =
    map-append sheet_of (map (panel_plate draft) (enumerate_from 0 draft.panels)) (map (wall_plate draft) (enumerate_from (length draft.panels) draft.walls))
    ∙ (λ i. numbered_sheets (panel_plate draft) panel_sheet (λ entry. refl) 0 draft.panels i
    ++ numbered_sheets (wall_plate draft) wall_sheet (λ entry. refl) (length draft.panels) draft.walls i)

-- and so they are where the panels and walls are known to be the draft's
pub all_sheets_are : (draft : Draft) (panels : List Panel) (walls : List Wall) → panels ≡ draft.panels → walls ≡ draft.walls
    → map panel_sheet panels ++ map wall_sheet walls ≡ sheets_of draft
all_sheets_are draft panels walls are walls_are =
    (λ i. map panel_sheet (are i) ++ map wall_sheet (walls_are i)) ∙ sym (sheets_are draft)

pub sheet_count : (draft : Draft) → length (sheets_of draft) ≡ length draft.panels + length draft.walls
sheet_count draft =
    ap length (sheets_are draft) ∙ length-append (map panel_sheet draft.panels) (map wall_sheet draft.walls)
    ∙ (λ i. length-map draft.panels panel_sheet i + length-map draft.walls wall_sheet i)

-- all sheets of a sound configuration are within the bounds
pub sheets_fit : (draft : Draft) → IsSound draft → All IsSheet (sheets_of draft)
sheets_fit draft sound = All-map IsSheet sheet_of (plates_of draft) (λ k d l. (plates_fit draft sound k d l).sheet)

-- the plate of a numbered element
plate_at : {X : Type 0} → (plate : ℕ × X → Plate) (n : ℕ) (xs : List X) (j : ℕ) (d : Plate) (x : X) → j < length xs
    → get_or (map plate (enumerate_from n xs)) j d ≡ plate (n + j, get_or xs j x)
plate_at plate n xs j d x l =
    get_or-map plate (enumerate_from n xs) j (n + j, x) d (rw length-enumerate_from l)
    ∙ ap plate (get_or-enumerate_from n xs j (n + j, x) l)

numbered_count : {X : Type 0} → (plate : ℕ × X → Plate) (n : ℕ) (xs : List X) → length (map plate (enumerate_from n xs)) ≡ length xs
numbered_count plate n xs = length-map (enumerate_from n xs) plate ∙ length-enumerate_from n xs

-- the plate of a panel's number is the panel's
pub plate_of_panel : (draft : Draft) (panels : List Panel) (n : ℕ) (d : Panel) (plate : Plate) → panels ≡ draft.panels → n < length panels
    → slice_get (plates_of draft) n ≡ Some plate → panel_plate draft (n, get_or panels n d) ≡ plate
unfolding plates_of
plate_of_panel draft panels n d plate are l there =
    let first = map (panel_plate draft) (enumerate_from 0 draft.panels) in
    let walls = map (wall_plate draft) (enumerate_from (length draft.panels) draft.walls) in
    let within : n < length draft.panels = subst (λ k. n < k) (ap length are) l in
    let counted : n < length first = subst (λ k. n < k) (sym (numbered_count (panel_plate draft) 0 draft.panels)) within in
    let number : 0 + n ≡ n = omega arith in
    (λ i. panel_plate draft (sym number i, get_or (are i) n d)) ∙ sym (plate_at (panel_plate draft) 0 draft.panels n plate d within)
    ∙ sym (get_or_append_left first walls plate n counted) ∙ get_or_from_slice_get (first ++ walls) n plate plate there

-- and behind the panels' numbers that of a wall's number is the wall's
pub plate_of_wall : (draft : Draft) (panels : List Panel) (walls : List Wall) (n : ℕ) (d : Wall) (plate : Plate) → panels ≡ draft.panels → walls ≡ draft.walls
    → length panels ≤ n → slice_get (plates_of draft) n ≡ Some plate → wall_plate draft (n, get_or walls (n - length panels) d) ≡ plate
unfolding plates_of
plate_of_wall draft panels walls n d plate are walls_are past there =
    let first = length draft.panels in
    let before = map (panel_plate draft) (enumerate_from 0 draft.panels) in
    let behind = map (wall_plate draft) (enumerate_from first draft.walls) in
    let reached : first ≤ n = subst (λ k. k ≤ n) (ap length are) past in
    let within : n - first < length draft.walls = omega (
      arith,
      reached,
      slice_get_within (before ++ behind) n plate there,
      length-append before behind,
      numbered_count (panel_plate draft) 0 draft.panels,
      numbered_count (wall_plate draft) first draft.walls,
    ) in
    let number : first + (n - first) ≡ n = omega (arith, reached) in
    (λ i. wall_plate draft (sym number i, get_or (walls_are i) (n - length (are i)) d)) ∙ sym (plate_at (wall_plate draft) first draft.walls (n - first) plate d within)
    ∙ sym (get_or-append_right before behind first n plate (numbered_count (panel_plate draft) 0 draft.panels) reached)
    ∙ get_or_from_slice_get (before ++ behind) n plate plate there

-- a plate that stands in for one where there is none
pub nowhere : Plate
nowhere = record {
  sheet = Plane 0 (pos 0);
  from_below = λ species. record { response = Pass; species = species };
  from_above = λ species. record { response = Pass; species = species };
}

module _ (draft : Draft) (sheets : List Sheet) (is : sheets ≡ sheets_of draft) where
  -- there are as many plates as sheets
  pub plates_counted : length sheets ≡ length (plates_of draft)
  plates_counted = ap length is ∙ length-map (plates_of draft) sheet_of

  module _ (n : ℕ) (l : n < length sheets) where
    pub plate_within : n < length (plates_of draft)
    plate_within = subst (λ k. n < k) plates_counted l

    -- the plate of a number, which stands where the sheet of this number is
    pub plate_got : slice_get (plates_of draft) n ≡ Some (get_or (plates_of draft) n nowhere)
    plate_got = slice_get-get_or (plates_of draft) n nowhere plate_within

    pub plate_stands : (d : Sheet) → sheet_of (get_or (plates_of draft) n nowhere) ≡ get_or sheets n d
    plate_stands d = sym (get_or-map sheet_of (plates_of draft) n nowhere d plate_within) ∙ ap (λ xs. get_or xs n d) (sym is)

-- what holds of all holds of the one that is got
all_of_got : {X : Type 0} → (P : X → Type 0) (xs : List X) (i : ℕ) (x : X) → All P xs → slice_get xs i ≡ Some x → P x
all_of_got P xs i x all e = subst P (get_or_from_slice_get xs i x x e) (all i x (slice_get_within xs i x e))

pub wall_got : (draft : Draft) (i : ℕ) (wall : Wall) → IsSound draft → slice_get draft.walls i ≡ Some wall → IsWallPlane wall.axis wall.plane
wall_got draft i wall sound at =
    all_of_got (λ (wall : Wall). IsWallPlane wall.axis wall.plane) draft.walls i wall (wall_planes_fit draft sound) at

-- the other wall of an axis is within the bounds, where all are
pub opposite_fits : (walls : List Wall) (wall : Wall) → All (λ (other : Wall). IsWallPlane other.axis other.plane) walls
    → IfSome (opposite_of walls wall) (λ (other : Wall). IsWallPlane other.axis other.plane)
opposite_fits walls wall all = all_found (λ (other : Wall). IsWallPlane other.axis other.plane) _ walls all
