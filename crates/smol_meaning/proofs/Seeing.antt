-- The plates of a sound configuration are within the bounds that ways rest on.
use Rattle.std.proofs.Common.{◌≡◌, ℕ, zero, suc, ◌+◌, ◌*◌, ◌%◌, ◌<◌, ◌≤◌, Bool, true, false, ◌⊎◌, inl, inr, List, [], ◌∷◌, length, get_or, refl, subst, arith, ℤ, pos, ◌+ℤ◌, ◌-ℤ◌, unsigned_abs}
use Rattle.std.specs.Prelude.{All, Option, Some, None, IfSome, IsSomeAnd, slice_get, slice_set, find, map}
use Rattle.std.specs.List.{enumerate_from}
use Rattle.std.proofs.lemmas.Bool.{cond_both}
use Rattle.std.proofs.lemmas.Int.{ints}
use Rattle.std.proofs.lemmas.List.Elements.{All-cons, All-nil, All-map, All-append}
use Rattle.std.proofs.lemmas.Option.{slice_get_cases}
use Rattle.smol_geom.specs.Axes.{IsEven, on_axis}
use Rattle.smol_geom.proofs.EachAxis.{at_axis}
use Rattle.smol_types.specs.declared.draft.Draft.{Draft}
use Rattle.smol_types.specs.declared.surface.Action.{Action}
use Rattle.smol_types.specs.declared.surface.Action.TheVariants as action
use Rattle.smol_types.specs.declared.surface.Face.{Face}
use Rattle.smol_types.specs.declared.surface.Face.TheVariants.{Front, Back}
use Rattle.smol_types.specs.declared.surface.Panel.{Panel}
use Rattle.smol_types.specs.declared.wall.Wall.{Wall}
use Rattle.smol_types.specs.Actions.{action_of, destination_of}
use Rattle.smol_types.specs.Limits.{farthest}
use Rattle.smol_types.specs.Panels.{IsPanel, IsCongruent, LeadsToCongruent}
use Rattle.smol_types.specs.Sound.{IsSound}
use Rattle.smol_types.specs.Walls.{AreWalls}
use Rattle.smol_meaning.specs.declared.way.Effect.{Effect}
use Rattle.smol_meaning.specs.declared.way.Response.{Response}
use Rattle.smol_meaning.specs.Folds.{IsPlate, IsResponse, IsJump, IsPanelRect, IsWallPlane}
use Rattle.smol_meaning.specs.declared.sheet.Sheet.{Sheet}
use Rattle.smol_meaning.specs.declared.sheet.Sheet.TheVariants.{Rectangle, Plane}
use Rattle.smol_meaning.specs.Seen.{arrival_face, response_by, corner_gap, jump_between, panel_jump, panel_effect, panel_response, panel_plate, opposite_of, wall_effect, wall_jump, wall_response, wall_plate, plates_of}

-- what holds of all holds of the one that is got, where one is
pub all_got : {X : Type 0} → (P : X → Type 0) (xs : List X) (i : ℕ) → All P xs → IfSome (slice_get xs i) P
all_got P xs i all = go (slice_get_cases xs i).1
  where
    go : ((x : _) × (i < length xs) × (slice_get xs i ≡ Some x) × (get_or xs i x ≡ x)) ⊎ ((length xs ≤ i) × (slice_get xs i ≡ None)) → IfSome (slice_get xs i) P
    go (inl h) = rw h.2 (subst P h.3 (all i h.0 h.1))
    go (inr h) = rw h.1 tt

-- and of the one that is found
pub all_found : {X : Type 0} → (P : X → Type 0) (test : X → Bool) (xs : List X) → All P xs → IfSome (find test xs) P
all_found P test [] all = tt
all_found P test (x ∷ xs) all =
    cond_both (test x) (Some x) (find test xs) (λ o. IfSome o P) (λ e. all 0 x (omega arith)) (λ e. all_found P test xs (λ k d l. all (suc k) d (omega arith)))

-- what holds of all holds of each with its number
all_enumerated : {X : Type 0} → (P : X → Type 0) (n : ℕ) (xs : List X) → All P xs → All (λ (entry : ℕ × X). P entry.1) (enumerate_from n xs)
all_enumerated P n [] all = All-nil (λ entry. P entry.1)
all_enumerated P n (x ∷ xs) all =
    All-cons (λ entry. P entry.1) (n, x) (enumerate_from (n + 1) xs) (all 0 x (omega arith)) (all_enumerated P (n + 1) xs (λ k d l. all (suc k) d (omega arith)))

-- what an action does to a molecule is within the bounds where its jump is
response_fits : (dims number : ℕ) (sheet : Sheet) (action : Action) (jump : Response) → IsResponse dims sheet jump → IsResponse dims sheet (response_by number action jump)
response_fits dims number sheet action.Reflect jump fits = tt
response_fits dims number sheet action.Absorb jump fits = tt
response_fits dims number sheet action.Jump jump fits = fits
response_fits dims number sheet action.Transmit jump fits = tt

gap_even : (a b : ℤ) → unsigned_abs a % 2 ≡ 0 → unsigned_abs b % 2 ≡ 0 → unsigned_abs (b -ℤ a) % 2 ≡ 0
gap_even a b x y = omega (arith, ints)

gap_none : (a b : ℤ) → a ≡ pos 0 → b ≡ pos 0 → b -ℤ a ≡ pos 0
gap_none a b x y = omega (arith, ints)

gap_low : (a b : ℤ) → unsigned_abs b ≤ farthest → unsigned_abs (a +ℤ (b -ℤ a)) ≤ farthest
gap_low a b small = omega (arith, ints)

gap_high : (a b high high' : ℤ) → unsigned_abs high' ≤ farthest → high -ℤ a ≡ high' -ℤ b → unsigned_abs (high +ℤ (b -ℤ a)) ≤ farthest
gap_high a b high high' small edge = omega (arith, ints)

module _ (dims surface_count : ℕ) (panels : List Panel) (all : All (IsPanel dims surface_count panels) panels) where
  congruent_jump : (panel other : Panel) → IsPanel dims surface_count panels panel → IsPanel dims surface_count panels other → IsCongruent panel.rect other.rect
      → IsJump dims (Rectangle panel.rect) (corner_gap panel.rect other.rect)
  congruent_jump panel other this there same =
      record {
        even = (gap_even (on_axis panel.rect.low 0) (on_axis other.rect.low 0) this.low_even.0 there.low_even.0, gap_even (on_axis panel.rect.low 1) (on_axis other.rect.low 1) this.low_even.1 there.low_even.1, gap_even (on_axis panel.rect.low 2) (on_axis other.rect.low 2) this.low_even.2 there.low_even.2);
        unused = (
          λ u. gap_none (on_axis panel.rect.low 0) (on_axis other.rect.low 0) (this.low_unused.0 u) (there.low_unused.0 u),
          λ u. gap_none (on_axis panel.rect.low 1) (on_axis other.rect.low 1) (this.low_unused.1 u) (there.low_unused.1 u),
          λ u. gap_none (on_axis panel.rect.low 2) (on_axis other.rect.low 2) (this.low_unused.2 u) (there.low_unused.2 u),
        );
        lands = (
          (gap_low (on_axis panel.rect.low 0) (on_axis other.rect.low 0) there.low_size.0, gap_high (on_axis panel.rect.low 0) (on_axis other.rect.low 0) (on_axis panel.rect.high 0) (on_axis other.rect.high 0) there.high_size.0 same.edges.0),
          (gap_low (on_axis panel.rect.low 1) (on_axis other.rect.low 1) there.low_size.1, gap_high (on_axis panel.rect.low 1) (on_axis other.rect.low 1) (on_axis panel.rect.high 1) (on_axis other.rect.high 1) there.high_size.1 same.edges.1),
          (gap_low (on_axis panel.rect.low 2) (on_axis other.rect.low 2) there.low_size.2, gap_high (on_axis panel.rect.low 2) (on_axis other.rect.low 2) (on_axis panel.rect.high 2) (on_axis other.rect.high 2) there.high_size.2 same.edges.2),
        );
      }

  jump_fits : (panel : Panel) (other : Option Panel) (face : Face) → IsPanel dims surface_count panels panel → IfSome other (IsPanel dims surface_count panels)
      → IsSomeAnd other (λ (o : Panel). IsCongruent panel.rect o.rect) → IsResponse dims (Rectangle panel.rect) (jump_between panel other face)
  jump_fits panel None face this there same = tt
  jump_fits panel (Some other) face this there same = congruent_jump panel other this there same

  panel_jump_fits : (panel : Panel) (to : Option (ℕ × Face)) → IsPanel dims surface_count panels panel → LeadsToCongruent panels panel.rect to
      → IsResponse dims (Rectangle panel.rect) (panel_jump panels panel to)
  panel_jump_fits panel None this leads = tt
  panel_jump_fits panel (Some to) this leads = jump_fits panel (slice_get panels to.0) to.1 this (all_got _ panels to.0 all) leads

  leads_on : (panel : Panel) (face : Face) → IsPanel dims surface_count panels panel → LeadsToCongruent panels panel.rect (destination_of panel face)
  leads_on panel Front this = this.front_to
  leads_on panel Back this = this.back_to

-- a wall of an axis in use
record IsWallOf (dims : ℕ) (wall : Wall) : Type 0 where
  pub across : wall.axis < dims
  pub size : unsigned_abs wall.plane ≤ farthest
  pub even : IsEven wall.plane

all_walls : (dims axis n : ℕ) (walls : List Wall) → AreWalls axis walls → length walls ≡ 2 * n → axis + n ≤ dims → All (IsWallOf dims) walls
all_walls dims axis n [] are count within = All-nil _
all_walls dims axis n (lower ∷ []) are count within = absurd are
all_walls dims axis zero (lower ∷ upper ∷ walls) are count within = absurd (omega (arith, count))
all_walls dims axis (suc n) (lower ∷ upper ∷ walls) are count within =
    All-cons (IsWallOf dims) lower (upper ∷ walls) (record { across = omega (arith, are.0.lower_axis, within); size = are.0.lower_size; even = are.0.lower_even })
    (All-cons (IsWallOf dims) upper walls (record { across = omega (arith, are.0.upper_axis, within); size = are.0.upper_size; even = are.0.upper_even })
    (all_walls dims (axis + 1) n walls are.1 (omega (arith, count)) (omega (arith, within))))

wall_jump_on : (dims axis : ℕ) (plane other : ℤ) → axis < 3 → axis < dims → unsigned_abs plane % 2 ≡ 0 → unsigned_abs other % 2 ≡ 0 → unsigned_abs other ≤ farthest
    → IsJump dims (Plane axis plane) (slice_set (pos 0 ∷ pos 0 ∷ pos 0 ∷ []) axis (other -ℤ plane))
wall_jump_on dims zero plane other l used even even' small =
    record {
      even = (gap_even plane other even even', refl, refl);
      unused = (λ u. absurd (omega (arith, u, used)), λ u. refl, λ u. refl);
      lands = (gap_low plane other small, (λ n. absurd (n refl), λ n. refl, λ n. refl));
    }
wall_jump_on dims (suc zero) plane other l used even even' small =
    record {
      even = (refl, gap_even plane other even even', refl);
      unused = (λ u. refl, λ u. absurd (omega (arith, u, used)), λ u. refl);
      lands = (gap_low plane other small, (λ n. refl, λ n. absurd (n refl), λ n. refl));
    }
wall_jump_on dims (suc (suc zero)) plane other l used even even' small =
    record {
      even = (refl, refl, gap_even plane other even even');
      unused = (λ u. refl, λ u. refl, λ u. absurd (omega (arith, u, used)));
      lands = (gap_low plane other small, (λ n. refl, λ n. refl, λ n. absurd (n refl)));
    }
wall_jump_on dims (suc (suc (suc axis))) plane other l used even even' small = absurd (omega arith)

wall_jump_fits : (dims : ℕ) (wall : Wall) (up : Bool) (other : Option Wall) → dims ≤ 3 → IsWallOf dims wall → IfSome other (IsWallOf dims)
    → IsResponse dims (Plane wall.axis wall.plane) (wall_jump wall up other)
wall_jump_fits dims wall up None few this there = tt
wall_jump_fits dims wall up (Some other) few this there =
    wall_jump_on dims wall.axis wall.plane other.plane (omega (arith, this.across, few)) this.across this.even there.even there.size

module _ (draft : Draft) (sound : IsSound draft) where
  pub rect_fits : (panel : Panel) → IsPanel draft.dims (length draft.surfaces) draft.panels panel → IsPanelRect panel.rect
  rect_fits panel is =
      record {
        shape = is.rect;
        low = is.low_size;
        high = is.high_size;
        even = at_axis (λ j. IsEven (on_axis panel.rect.low j)) panel.rect.axis is.rect.axis is.low_even;
      }

  -- the rectangles of all panels are within the bounds
  pub rects_fit : All IsPanelRect (map (λ (panel : Panel). panel.rect) draft.panels)
  rects_fit = All-map IsPanelRect (λ (panel : Panel). panel.rect) draft.panels (λ k d l. rect_fits _ (sound.panels k d l))

  panel_fits : (entry : ℕ × Panel) → IsPanel draft.dims (length draft.surfaces) draft.panels entry.1 → IsPlate draft.dims (panel_plate draft entry)
  panel_fits entry is =
      record {
        sheet = rect_fits entry.1 is;
        responses = λ up species. cond_both up (panel_effect draft entry.0 entry.1 (arrival_face entry.1.greater true) species) (panel_effect draft entry.0 entry.1 (arrival_face entry.1.greater false) species)
            (λ (effect : Effect). IsResponse draft.dims (Rectangle entry.1.rect) effect.response)
            (λ e. on (arrival_face entry.1.greater true) species) (λ e. on (arrival_face entry.1.greater false) species);
      }
    where
      on : (face : Face) (species : ℕ) → IsResponse draft.dims (Rectangle entry.1.rect) (panel_response draft species entry.0 entry.1 face)
      on face species =
          response_fits draft.dims entry.0 (Rectangle entry.1.rect) (action_of draft entry.0 face species) (panel_jump draft.panels entry.1 (destination_of entry.1 face))
          (panel_jump_fits draft.dims (length draft.surfaces) draft.panels sound.panels entry.1 (destination_of entry.1 face) is
          (leads_on draft.dims (length draft.surfaces) draft.panels sound.panels entry.1 face is))

  walls_are : All (IsWallOf draft.dims) draft.walls
  walls_are = all_walls draft.dims 0 draft.dims draft.walls sound.walls sound.wall_count (omega arith)

  wall_plane_fits : (wall : Wall) → IsWallOf draft.dims wall → IsWallPlane wall.axis wall.plane
  wall_plane_fits wall is = record { across = omega (arith, is.across, sound.dims_below); size = is.size; even = is.even }

  -- and so are the planes of all walls
  pub wall_planes_fit : All (λ (wall : Wall). IsWallPlane wall.axis wall.plane) draft.walls
  wall_planes_fit = λ k d l. wall_plane_fits _ (walls_are k d l)

  wall_fits : (entry : ℕ × Wall) → IsWallOf draft.dims entry.1 → IsPlate draft.dims (wall_plate draft entry)
  wall_fits entry is =
      record {
        sheet = wall_plane_fits entry.1 is;
        responses = λ up species. cond_both up (wall_effect draft entry.0 entry.1 true species) (wall_effect draft entry.0 entry.1 false species)
            (λ (effect : Effect). IsResponse draft.dims (Plane entry.1.axis entry.1.plane) effect.response) (λ e. on true species) (λ e. on false species);
      }
    where
      on : (up : Bool) (species : ℕ) → IsResponse draft.dims (Plane entry.1.axis entry.1.plane) (wall_response draft species entry.0 entry.1 up)
      on up species =
          response_fits draft.dims entry.0 (Plane entry.1.axis entry.1.plane) _ (wall_jump entry.1 up (opposite_of draft.walls entry.1))
          (wall_jump_fits draft.dims entry.1 up (opposite_of draft.walls entry.1) sound.dims_below is (all_found (IsWallOf draft.dims) _ draft.walls walls_are))

  pub plates_fit : All (IsPlate draft.dims) (plates_of draft)
  unfolding plates_of
  plates_fit =
      All-append (IsPlate draft.dims) (map (panel_plate draft) (enumerate_from 0 draft.panels)) (map (wall_plate draft) (enumerate_from (length draft.panels) draft.walls))
      (All-map (IsPlate draft.dims) (panel_plate draft) (enumerate_from 0 draft.panels)
      (λ k d l. panel_fits _ (all_enumerated (IsPanel draft.dims (length draft.surfaces) draft.panels) 0 draft.panels sound.panels k d l)))
      (All-map (IsPlate draft.dims) (wall_plate draft) (enumerate_from (length draft.panels) draft.walls)
      (λ k d l. wall_fits _ (all_enumerated (IsWallOf draft.dims) (length draft.panels) draft.walls walls_are k d l)))
