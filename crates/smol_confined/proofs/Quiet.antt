-- No panel that jumps and no periodic wall has a point in common with a box that is built.
use Rattle.std.proofs.Common.{◌≡◌, ℕ, zero, suc, ◌+◌, ◌-◌, ◌<◌, Bool, true, false, not, ◌⊎◌, inl, inr, List, [], ◌∷◌, length, map, All, refl, sym, ap, subst, ◌∙◌, arith, ℤ, pos, ◌*ℤ◌, ◌≤ℤ◌, ◌<ℤ◌}
use Rattle.std.specs.Prelude.{Some, slice_get}
use Rattle.std.specs.List.{enumerate_from}
use Rattle.std.proofs.lemmas.Bool.{cond_both}
use Rattle.std.proofs.lemmas.Int.{ints}
use Rattle.std.proofs.lemmas.List.Elements.{All-append, All-map}
use Rattle.std.proofs.lemmas.Option.{slice_get_past}
use Rattle.smol_geom.specs.declared.cuboid.Cuboid.{Cuboid}
use Rattle.smol_geom.specs.declared.rect.Rect.{Rect}
use Rattle.smol_geom.specs.Axes.{on_axis}
use Rattle.smol_geom.specs.Fraction.{Fraction, IsNumber, whole, ◌≤ℚ◌, ◌≈ℚ◌}
use Rattle.smol_geom.specs.Rect.{HoldsPoint, IsInRange}
use Rattle.smol_geom.proofs.EachAxis.{at_axis}
use Rattle.smol_geom.proofs.Integers.{cancel_mul_ℤ}
use Rattle.smol_types.specs.declared.draft.Draft.{Draft}
use Rattle.smol_types.specs.declared.surface.Action.{Action}
use Rattle.smol_types.specs.declared.surface.Action.TheVariants as action
use Rattle.smol_types.specs.declared.surface.Face.{Face}
use Rattle.smol_types.specs.declared.surface.Face.TheVariants.{Front, Back}
use Rattle.smol_types.specs.declared.surface.Panel.{Panel}
use Rattle.smol_types.specs.declared.wall.Letter.{Letter}
use Rattle.smol_types.specs.declared.wall.Letter.TheVariants as letter
use Rattle.smol_types.specs.declared.wall.Wall.{Wall}
use Rattle.smol_types.specs.Actions.{action_of, action_of_panel, action_of_wall, change_of, change_of_panel, panel_action, panel_change, wall_action}
use Rattle.smol_types.specs.Sound.{IsSound}
use Rattle.smol_meaning.specs.declared.way.Response.{Response}
use Rattle.smol_meaning.specs.Box.{IsInRegion, StaysAmong, StaysPut}
use Rattle.smol_meaning.specs.Folds.{IsWallPlane}
use Rattle.smol_meaning.specs.Plates.{IsOn, Plate, effect_of}
use Rattle.smol_meaning.specs.Seen.{arrival_face, panel_effect, panel_plate, plates_of, response_by, wall_effect, wall_plate}
use Rattle.smol_meaning.proofs.Seeing.{wall_planes_fit}
use Rattle.smol_confined.specs.Built.{IsApart, IsBuilt, IsNoChangeIn, IsNoJumpIn, IsNoPeriodIn}
use Rattle.smol_confined.proofs.Listed.{all_numbered}

-- a number from a lower to a higher one is no number below them or above them
none_over : (low high : ℤ) (x : Fraction) → IsNumber x → high <ℤ low → whole low ≤ℚ x → x ≤ℚ whole high → ⊥
none_over low high x number less above below =
    let turned = cancel_mul_ℤ low high x.den number (orders (low *ℤ pos x.den) x.num (high *ℤ pos x.den) above below) in
    omega (arith, ints, less, turned)
  where
    orders : (a n b : ℤ) → a ≤ℤ (n *ℤ pos 1) → (n *ℤ pos 1) ≤ℤ b → a ≤ℤ b
    orders a n b h k = omega (arith, ints, h, k)

-- a rectangle apart from the box has no point in its region
pub none_of_rect : (rect : Rect) (box : Cuboid) (point : ℕ → Fraction) → IsApart rect box → IsInRegion box point → HoldsPoint rect point → ⊥
none_of_rect rect box point (axis, l, inl below) within on =
    let here = at_axis (λ j. IsInRange rect j (point j)) axis l on in
    none_over (on_axis box.low axis) (on_axis rect.high axis) (point axis) (within axis l).number below (within axis l).above here.high
none_of_rect rect box point (axis, l, inr above) within on =
    let here = at_axis (λ j. IsInRange rect j (point j)) axis l on in
    none_over (on_axis rect.low axis) (on_axis box.high axis) (point axis) (within axis l).number above here.low (within axis l).below

same_both : (x : Fraction) (plane : ℤ) → x ≈ℚ whole plane → (whole plane ≤ℚ x) × (x ≤ℚ whole plane)
same_both x plane same = (omega (arith, ints, same), omega (arith, ints, same))

-- a wall below the box or above it has no point in its region
none_of_wall : (wall : Wall) (box : Cuboid) (point : ℕ → Fraction) → wall.axis < 3
    → (wall.plane <ℤ on_axis box.low wall.axis) ⊎ (on_axis box.high wall.axis <ℤ wall.plane)
    → IsInRegion box point → point wall.axis ≈ℚ whole wall.plane → ⊥
none_of_wall wall box point l (inl below) within on =
    none_over (on_axis box.low wall.axis) wall.plane (point wall.axis) (within wall.axis l).number below (within wall.axis l).above
    (same_both (point wall.axis) wall.plane on).1
none_of_wall wall box point l (inr above) within on =
    none_over wall.plane (on_axis box.high wall.axis) (point wall.axis) (within wall.axis l).number above
    (same_both (point wall.axis) wall.plane on).0 (within wall.axis l).below

-- an action that is no jump moves nothing elsewhere
stays : (number : ℕ) (act : Action) (jump : Response) → (act ≡ action.Jump → ⊥) → StaysPut (response_by number act jump)
stays number action.Reflect jump none = tt
stays number action.Absorb jump none = tt
stays number action.Jump jump none = absurd (none refl)
stays number action.Transmit jump none = tt

-- what isn't false is true
unless_false : (b : Bool) → (b ≡ false → ⊥) → b ≡ true
unless_false true not_so = refl
unless_false false not_so = absurd (not_so refl)

-- a wall that isn't periodic doesn't jump
only_periodic : (l : Letter) (face : Face) → wall_action l face ≡ action.Jump → l ≡ letter.P
only_periodic letter.R Front e = absurd (cc)
only_periodic letter.P Front e = refl
only_periodic letter.A Front e = absurd (cc)
only_periodic letter.T Front e = absurd (cc)
only_periodic letter.R Back e = absurd (cc)
only_periodic letter.P Back e = refl
only_periodic letter.A Back e = absurd (cc)
only_periodic letter.T Back e = absurd (cc)

module _ (draft : Draft) (species : ℕ) where
  -- what the faces of a panel and of a wall do, by their numbers
  pub panel_acts : (number : ℕ) (panel : Panel) (face : Face) → slice_get draft.panels number ≡ Some panel
      → action_of draft number face species ≡ panel_action draft.surfaces panel face species
  unfolding action_of
  panel_acts number panel face is = ap (action_of_panel draft number face species) is

  -- and what a face of a panel makes of the species
  panel_makes : (number : ℕ) (panel : Panel) (face : Face) → slice_get draft.panels number ≡ Some panel
      → change_of draft number face species ≡ panel_change draft.surfaces panel face species
  unfolding change_of
  panel_makes number panel face is = ap (change_of_panel draft face species) is

  pub wall_acts : (i : ℕ) (wall : Wall) (face : Face) → slice_get draft.walls i ≡ Some wall
      → action_of draft (length draft.panels + i) face species ≡ wall_action wall.letter face
  unfolding action_of
  wall_acts i wall face is =
      let back : (length draft.panels + i) - length draft.panels ≡ i = omega arith in
      ap (action_of_panel draft (length draft.panels + i) face species)
      (slice_get_past draft.panels (length draft.panels + i) (omega arith))
      ∙ ap (λ k. action_of_wall face (slice_get draft.walls k)) back
      ∙ ap (action_of_wall face) is

module _ (draft : Draft) (among : ℕ → Bool) where
  -- where the plate has a point in the region of the box, it moves no molecule of a species among these elsewhere, and makes one
  -- of these species of it
  abbrev pub IsQuiet : Cuboid → Plate → Type 0
  IsQuiet box plate =
      (point : ℕ → Fraction) → IsInRegion box point → IsOn plate.sheet point → (species : ℕ) → among species ≡ true → (up : Bool)
      → StaysAmong among (effect_of plate up species)

  panel_quiet : (box : Cuboid) (number : ℕ) (panel : Panel) → slice_get draft.panels number ≡ Some panel
      → ((species : ℕ) → among species ≡ true → IsNoJumpIn draft species box panel) → IsNoChangeIn draft among box panel
      → IsQuiet box (panel_plate draft (number, panel))
  panel_quiet box number panel is apart changes = λ point within on species kin up.
      let by : (face : Face) → StaysAmong among (panel_effect draft number panel face species) = λ face. record {
        put = stays number (action_of draft number face species) _
            (λ e. none_of_rect panel.rect box point (apart species kin face (sym (panel_acts draft species number panel face is) ∙ e)) within on);
        kin = ap among (panel_makes draft species number panel face is)
            ∙ unless_false (among (panel_change draft.surfaces panel face species))
            (λ other. none_of_rect panel.rect box point (changes face species kin other) within on);
      } in
      cond_both up (panel_effect draft number panel (arrival_face panel.greater true) species)
      (panel_effect draft number panel (arrival_face panel.greater false) species) (StaysAmong among)
      (λ e. by (arrival_face panel.greater true)) (λ e. by (arrival_face panel.greater false))

  wall_quiet : (box : Cuboid) (i : ℕ) (wall : Wall) → slice_get draft.walls i ≡ Some wall → wall.axis < 3
      → ((species : ℕ) → among species ≡ true → IsNoPeriodIn box wall)
      → IsQuiet box (wall_plate draft (length draft.panels + i, wall))
  wall_quiet box i wall is l apart = λ point within on species kin up.
      let by : (up : Bool) → StaysAmong among (wall_effect draft (length draft.panels + i) wall up species) = λ up. record {
        put = stays (length draft.panels + i) (action_of draft (length draft.panels + i) (arrival_face (not wall.upper) up) species) _
            (λ e. none_of_wall wall box point l
            (apart species kin (only_periodic wall.letter _ (sym (wall_acts draft species i wall (arrival_face (not wall.upper) up) is) ∙ e))) within on);
        kin = kin;
      } in
      cond_both up (wall_effect draft (length draft.panels + i) wall true species) (wall_effect draft (length draft.panels + i) wall false species)
      (StaysAmong among) (λ e. by true) (λ e. by false)

  -- what holds of all holds of the one that is got
  got : {X : Type 0} → (Q : X → Type 0) (xs : List X) (i : ℕ) (x : X) → slice_get xs i ≡ Some x → All Q xs → Q x
  got Q [] i x is all = absurd (cc)
  got Q (y ∷ xs) zero x is all = let same : y ≡ x = cc in subst Q same (all 0 y (omega arith))
  got Q (y ∷ xs) (suc i) x is all = got Q xs i x is (λ k d l. all (suc k) d (omega arith))

  pub all_quiet : (box : Cuboid) → IsSound draft → ((species : ℕ) → among species ≡ true → IsBuilt draft species box)
      → All (IsNoChangeIn draft among box) draft.panels → All (IsQuiet box) (plates_of draft)
  unfolding plates_of
  all_quiet box sound built changes =
      All-append (IsQuiet box) (map (panel_plate draft) (enumerate_from 0 draft.panels))
      (map (wall_plate draft) (enumerate_from (length draft.panels) draft.walls))
      (All-map (IsQuiet box) (panel_plate draft) (enumerate_from 0 draft.panels)
      (all_numbered (λ entry. IsQuiet box (panel_plate draft entry)) 0 draft.panels (λ i panel is.
      let at : i ≡ 0 + i = omega arith in
      subst (λ k. IsQuiet box (panel_plate draft (k, panel))) at
      (panel_quiet box i panel is (λ species kin. got (IsNoJumpIn draft species box) draft.panels i panel is (built species kin).jumps)
      (got (IsNoChangeIn draft among box) draft.panels i panel is changes)))))
      (All-map (IsQuiet box) (wall_plate draft) (enumerate_from (length draft.panels) draft.walls)
      (all_numbered (λ entry. IsQuiet box (wall_plate draft entry)) (length draft.panels) draft.walls (λ i wall is.
      wall_quiet box i wall is (got (λ w. IsWallPlane w.axis w.plane) draft.walls i wall is (wall_planes_fit draft sound)).across
      (λ species kin. got (IsNoPeriodIn box) draft.walls i wall is (built species kin).periods))))
