-- A box that is built is closed.
use Rattle.std.proofs.Common.{◌≡◌, ℕ, ◌+◌, ◌<◌, Bool, true, false, not, inl, inr, get_or, length, map, refl, sym, ap, subst, ◌∙◌, arith, ℤ}
use Rattle.std.specs.Prelude.{All, Contains}
use Rattle.std.specs.List.{enumerate_from}
use Rattle.std.proofs.lemmas.Bool.{both_ways, lt-ltb, ltb-true}
use Rattle.std.proofs.lemmas.List.Elements.{All-contains, Contains-append_left, Contains-append_right}
use Rattle.smol_geom.specs.declared.cuboid.Cuboid.{Cuboid}
use Rattle.smol_geom.specs.Axes.{on_axis}
use Rattle.smol_geom.proofs.Lists.{contains_had}
use Rattle.smol_types.specs.declared.draft.Draft.{Draft}
use Rattle.smol_types.specs.declared.surface.Action.TheVariants as action
use Rattle.smol_types.specs.declared.surface.Face.{Face}
use Rattle.smol_types.specs.declared.surface.Face.TheVariants.{Front}
use Rattle.smol_types.specs.declared.surface.Panel.{Panel}
use Rattle.smol_types.specs.declared.wall.Wall.{Wall}
use Rattle.smol_types.specs.Actions.{action_of, destination_of, panel_action, panel_change, wall_action}
use Rattle.smol_types.specs.Sound.{IsSound}
use Rattle.smol_meaning.specs.declared.way.Response.TheVariants.{Reflect}
use Rattle.smol_meaning.specs.Box.{IsClosed, IsFaceShut}
use Rattle.smol_meaning.specs.Plates.{response_of}
use Rattle.smol_meaning.specs.Seen.{IsClosedBox, arrival_face, is_species, opposite_of, panel_jump, panel_plate, plates_of, response_by, wall_jump, wall_plate}
use Rattle.smol_meaning.proofs.Becoming.{panel_change_within}
use Rattle.smol_confined.specs.Built.{IsBuilt, IsHeld, IsNoChangeIn, IsPanelAt, IsWallAt, inner_face}
use Rattle.smol_confined.proofs.Listed.{got_there, has_numbered}
use Rattle.smol_confined.proofs.Quiet.{IsQuiet, all_quiet, panel_acts, wall_acts}

-- the inner face of a panel is the one on which a molecule from within arrives
inner_is : (panel : Panel) (greater : Bool) (upper : Bool) → panel.greater ≡ greater
    → inner_face panel upper ≡ arrival_face panel.greater upper
inner_is panel true true is = rw is refl
inner_is panel true false is = rw is refl
inner_is panel false true is = rw is refl
inner_is panel false false is = rw is refl

-- and that of a wall is its front
front_is : (side upper : Bool) → side ≡ upper → arrival_face (not side) upper ≡ Front
front_is true true same = refl
front_is true false same = absurd (cc)
front_is false true same = absurd (cc)
front_is false false same = refl

module _ (draft : Draft) (species : ℕ) where
  response_here : (entry : ℕ × Panel) (upper : Bool) → action_of draft entry.0 (arrival_face entry.1.greater upper) species ≡ action.Reflect
      → response_of (panel_plate draft entry) upper species ≡ Reflect
  response_here entry true is =
      ap (λ act. response_by entry.0 act (panel_jump draft.panels entry.1 (destination_of entry.1 (arrival_face entry.1.greater true)))) is
  response_here entry false is =
      ap (λ act. response_by entry.0 act (panel_jump draft.panels entry.1 (destination_of entry.1 (arrival_face entry.1.greater false)))) is

  wall_response_here : (entry : ℕ × Wall) (upper : Bool) → action_of draft entry.0
      (arrival_face (not entry.1.upper) upper) species ≡ action.Reflect
      → response_of (wall_plate draft entry) upper species ≡ Reflect
  wall_response_here entry true is = ap (λ act. response_by entry.0 act (wall_jump entry.1 true (opposite_of draft.walls entry.1))) is
  wall_response_here entry false is = ap (λ act. response_by entry.0 act (wall_jump entry.1 false (opposite_of draft.walls entry.1))) is

  module _ (box : Cuboid) (axis : ℕ) (plane : ℤ) (upper : Bool) where
    -- a face that a panel holds is shut
    panel_shuts : (panel : Panel) → IsPanelAt draft species box axis plane upper panel
        → IsFaceShut (plates_of draft) species box axis plane upper
    unfolding plates_of
    panel_shuts panel is =
        let there = got_there draft.panels panel is.listed in
        let acts = panel_acts draft species there.0 panel (arrival_face panel.greater upper) there.1 in
        let face = inner_is panel panel.greater upper refl in
        let at : 0 + there.0 ≡ there.0 = omega arith in
        record {
          plate = panel_plate draft (there.0, panel);
          listed = Contains-append_left (map (panel_plate draft) (enumerate_from 0 draft.panels))
              (map (wall_plate draft) (enumerate_from (length draft.panels) draft.walls)) _
              (subst (λ k. Contains (map (panel_plate draft) (enumerate_from 0 draft.panels))
              (panel_plate draft (k, panel))) at
              (contains_had _ _ (has_numbered (panel_plate draft) 0 draft.panels there.0 panel there.1)));
          across = is.across;
          at_plane = is.at_plane;
          covers = is.covers;
          reflects = response_here (there.0, panel) upper
              (acts ∙ ap (λ f. panel_action draft.surfaces panel f species) (sym face) ∙ is.reflects);
        }

    -- and so is one at which a wall stands
    wall_shuts : (wall : Wall) → IsWallAt draft axis plane upper wall → IsFaceShut (plates_of draft) species box axis plane upper
    unfolding plates_of
    wall_shuts wall is =
        let there = got_there draft.walls wall is.listed in
        let acts = wall_acts draft species there.0 wall (arrival_face (not wall.upper) upper) there.1 in
        let face = front_is wall.upper upper is.side in
        record {
          plate = wall_plate draft (length draft.panels + there.0, wall);
          listed = Contains-append_right (map (panel_plate draft) (enumerate_from 0 draft.panels))
              (map (wall_plate draft) (enumerate_from (length draft.panels) draft.walls)) _
              (contains_had _ _ (has_numbered (wall_plate draft) (length draft.panels) draft.walls there.0 wall there.1));
          across = is.across;
          at_plane = is.at_plane;
          covers = tt;
          reflects = wall_response_here (length draft.panels + there.0, wall) upper (acts ∙ (λ i. wall_action (is.reflects i) (face i)));
        }

    shut : IsHeld draft species box axis plane upper → IsFaceShut (plates_of draft) species box axis plane upper
    shut (inl held) = panel_shuts held.0 held.1
    shut (inr held) = wall_shuts held.0 held.1

-- a box that is built for each species among these is closed for them
pub is_closed : (draft : Draft) (among : ℕ → Bool) (box : Cuboid) → IsSound draft → ((species : ℕ) → among species ≡ true → IsBuilt draft species box)
    → All (IsNoChangeIn draft among box) draft.panels → IsClosed draft.dims (plates_of draft) among box
is_closed draft among box sound built changes = record {
  lower = λ species kin axis used. shut draft species box axis (on_axis box.low axis) false ((built species kin).lower axis used);
  upper = λ species kin axis used. shut draft species box axis (on_axis box.high axis) true ((built species kin).upper axis used);
  quiet = λ plate listed point within on.
      All-contains (IsQuiet draft among box) (plates_of draft) plate (all_quiet draft among box sound built changes) listed point within on;
}

pub is_closed_box : (draft : Draft) (box : Cuboid) → IsSound draft →
    ((species : ℕ) → species < length draft.species → IsBuilt draft species box) → IsClosedBox draft box
is_closed_box draft box sound built =
    is_closed draft (is_species draft) box sound (λ species kin. built species (ltb-true species (length draft.species) kin))
    (λ i d within face species kin other. absurd (stays_known species face (get_or draft.panels i d) kin other))
  where
    -- of a species that there is no face makes one that there isn't
    stays_known : (species : ℕ) (face : Face) (panel : Panel) → is_species draft species ≡ true
        → is_species draft (panel_change draft.surfaces panel face species) ≡ false → ⊥
    stays_known species face panel kin other =
        let known : is_species draft (panel_change draft.surfaces panel face species) ≡ true =
        lt-ltb (panel_change draft.surfaces panel face species) (length draft.species)
        (panel_change_within draft sound panel face species (ltb-true species (length draft.species) kin)) in
        both_ways (is_species draft (panel_change draft.surfaces panel face species)) other known
