-- The six panels within periodic walls build a box.
use Rattle.std.proofs.Common.{◌≡◌, ℕ, zero, suc, ◌<◌, Bool, true, false, inl, inr, List, [], ◌∷◌, length, All, refl, sym, ap, subst, ◌∙◌, arith, ℤ, pos, ◌≤ℤ◌}
use Rattle.std.specs.Prelude.{Contains}
use Rattle.std.proofs.lemmas.Int.{ints}
use Rattle.std.proofs.lemmas.List.Elements.{All-cons, All-nil}
use Rattle.smol_geom.specs.Axes.{on_axis}
use Rattle.smol_types.specs.declared.draft.Draft.{Draft}
use Rattle.smol_types.specs.declared.surface.Action.TheVariants.{Reflect, Jump, Transmit}
use Rattle.smol_types.specs.declared.surface.Face.TheVariants.{Front, Back}
use Rattle.smol_types.specs.declared.surface.Panel.{Panel}
use Rattle.smol_types.specs.Actions.{panel_action}
use Rattle.smol_meaning.specs.Box.{Covers}
use Rattle.smol_meaning.specs.declared.sheet.Sheet.TheVariants.{Rectangle}
use Rattle.smol_confined.specs.Built.{IsBuilt, IsHeld, IsNoJumpIn, IsNoPeriodIn}
use Rattle.smol_confined.specs.Example.{HasBoxAndDoors, box_and_doors, far_door, high_x, high_y, high_z, low_x, low_y, low_z, near_door, periodic, side, sixty, small_box, surfaces_of_both, ten, twenty}

module _ (draft : Draft) (has : HasBoxAndDoors draft) where
  -- the front of a side reflects both species
  front_reflects : (species axis : ℕ) (low high : List ℤ) (greater : Bool) → species < 2 → panel_action draft.surfaces
      (side axis low high greater) Front species ≡ Reflect
  front_reflects species axis low high greater l =
      ap (λ surfaces. panel_action surfaces (side axis low high greater) Front species) has.surfaces ∙ each species l
    where
      each : (n : ℕ) → n < 2 → panel_action surfaces_of_both (side axis low high greater) Front n ≡ Reflect
      each zero k = refl
      each (suc zero) k = refl
      each (suc (suc n)) k = absurd (omega arith)

  back_passes : (species axis : ℕ) (low high : List ℤ) (greater : Bool) → species < 2 → panel_action draft.surfaces
      (side axis low high greater) Back species ≡ Transmit
  back_passes species axis low high greater l =
      ap (λ surfaces. panel_action surfaces (side axis low high greater) Back species) has.surfaces ∙ each species l
    where
      each : (n : ℕ) → n < 2 → panel_action surfaces_of_both (side axis low high greater) Back n ≡ Transmit
      each zero k = refl
      each (suc zero) k = refl
      each (suc (suc n)) k = absurd (omega arith)

  -- so it doesn't jump
  side_stays : (species axis : ℕ) (low high : List ℤ) (greater : Bool) → species < 2 → IsNoJumpIn draft species small_box
      (side axis low high greater)
  side_stays species axis low high greater l Front e = absurd
      (let no : Reflect ≡ Jump = sym (front_reflects species axis low high greater l) ∙ e in cc)
  side_stays species axis low high greater l Back e = absurd
      (let no : Transmit ≡ Jump = sym (back_passes species axis low high greater l) ∙ e in cc)

  -- and the doors are beyond the box on the axis x
  near_apart : (species : ℕ) → IsNoJumpIn draft species small_box near_door
  near_apart species face e = (0, omega arith, inr (omega (arith, ints)))

  far_apart : (species : ℕ) → IsNoJumpIn draft species small_box far_door
  far_apart species face e = (0, omega arith, inr (omega (arith, ints)))

  jumps_are : (species : ℕ) → species < 2 → All (IsNoJumpIn draft species small_box) draft.panels
  jumps_are species l =
      let Q = IsNoJumpIn draft species small_box in
      subst (All Q) (sym has.panels)
      (All-cons Q low_x (high_x ∷ low_y ∷ high_y ∷ low_z ∷ high_z ∷ near_door ∷ far_door ∷ [])
      (side_stays species 0 low_x.rect.low low_x.rect.high true l)
      (All-cons Q high_x (low_y ∷ high_y ∷ low_z ∷ high_z ∷ near_door ∷ far_door ∷ [])
      (side_stays species 0 high_x.rect.low high_x.rect.high false l)
      (All-cons Q low_y (high_y ∷ low_z ∷ high_z ∷ near_door ∷ far_door ∷ []) (side_stays species 1 low_y.rect.low low_y.rect.high true l)
      (All-cons Q high_y (low_z ∷ high_z ∷ near_door ∷ far_door ∷ []) (side_stays species 1 high_y.rect.low high_y.rect.high false l)
      (All-cons Q low_z (high_z ∷ near_door ∷ far_door ∷ []) (side_stays species 2 low_z.rect.low low_z.rect.high true l)
      (All-cons Q high_z (near_door ∷ far_door ∷ []) (side_stays species 2 high_z.rect.low high_z.rect.high false l)
      (All-cons Q near_door (far_door ∷ []) (near_apart species)
      (All-cons Q far_door [] (far_apart species)
      (All-nil Q)))))))))

  below : (axis : ℕ) → axis < 3 → IsNoPeriodIn small_box (periodic axis (pos 0) false)
  below zero l e = inl (omega (arith, ints))
  below (suc zero) l e = inl (omega (arith, ints))
  below (suc (suc zero)) l e = inl (omega (arith, ints))
  below (suc (suc (suc axis))) l e = absurd (omega arith)

  above : (axis : ℕ) → axis < 3 → IsNoPeriodIn small_box (periodic axis sixty true)
  above zero l e = inr (omega (arith, ints))
  above (suc zero) l e = inr (omega (arith, ints))
  above (suc (suc zero)) l e = inr (omega (arith, ints))
  above (suc (suc (suc axis))) l e = absurd (omega arith)

  periods_are : All (IsNoPeriodIn small_box) draft.walls
  periods_are =
      let Q = IsNoPeriodIn small_box in
      subst (All Q) (sym has.walls)
      (All-cons Q (periodic 0 (pos 0) false)
      (periodic 0 sixty true ∷ periodic 1 (pos 0) false ∷ periodic 1 sixty true ∷ periodic 2
      (pos 0) false ∷ periodic 2 sixty true ∷ []) (below 0 (omega arith))
      (All-cons Q (periodic 0 sixty true)
      (periodic 1 (pos 0) false ∷ periodic 1 sixty true ∷ periodic 2 (pos 0) false ∷ periodic 2 sixty true ∷ []) (above 0 (omega arith))
      (All-cons Q (periodic 1 (pos 0) false) (periodic 1 sixty true ∷ periodic 2 (pos 0) false ∷ periodic 2 sixty true ∷ [])
      (below 1 (omega arith))
      (All-cons Q (periodic 1 sixty true) (periodic 2 (pos 0) false ∷ periodic 2 sixty true ∷ []) (above 1 (omega arith))
      (All-cons Q (periodic 2 (pos 0) false) (periodic 2 sixty true ∷ []) (below 2 (omega arith))
      (All-cons Q (periodic 2 sixty true) [] (above 2 (omega arith))
      (All-nil Q)))))))

  -- a panel of the list is one of the configuration's
  listed : (panel : Panel) → Contains box_and_doors panel → Contains draft.panels panel
  listed panel there = subst (λ panels. Contains panels panel) (sym has.panels) there

  same : (z : ℤ) → z ≤ℤ z
  same z = omega (arith, ints)

  -- a side covers the face of the box where its corners are the box's on the other axes
  covers_x : (x : ℤ) (greater : Bool) → Covers (Rectangle (side 0 (x ∷ ten ∷ ten ∷ []) (x ∷ twenty ∷ twenty ∷ []) greater).rect) small_box
  covers_x x greater zero l other = absurd (other refl)
  covers_x x greater (suc zero) l other = (same ten, same twenty)
  covers_x x greater (suc (suc zero)) l other = (same ten, same twenty)
  covers_x x greater (suc (suc (suc j))) l other = absurd (omega arith)

  covers_y : (y : ℤ) (greater : Bool) → Covers (Rectangle (side 1 (ten ∷ y ∷ ten ∷ []) (twenty ∷ y ∷ twenty ∷ []) greater).rect) small_box
  covers_y y greater zero l other = (same ten, same twenty)
  covers_y y greater (suc zero) l other = absurd (other refl)
  covers_y y greater (suc (suc zero)) l other = (same ten, same twenty)
  covers_y y greater (suc (suc (suc j))) l other = absurd (omega arith)

  covers_z : (z : ℤ) (greater : Bool) → Covers (Rectangle (side 2 (ten ∷ ten ∷ z ∷ []) (twenty ∷ twenty ∷ z ∷ []) greater).rect) small_box
  covers_z z greater zero l other = (same ten, same twenty)
  covers_z z greater (suc zero) l other = (same ten, same twenty)
  covers_z z greater (suc (suc zero)) l other = absurd (other refl)
  covers_z z greater (suc (suc (suc j))) l other = absurd (omega arith)

  module _ (species : ℕ) (known : species < 2) where
    lower_held : (axis : ℕ) → axis < 3 → IsHeld draft species small_box axis (on_axis small_box.low axis) false
    lower_held zero l = inl (
      low_x,
      record {
        listed = listed low_x (0, omega arith, refl);
        across = refl;
        at_plane = refl;
        covers = covers_x ten true;
        reflects = front_reflects species 0 low_x.rect.low low_x.rect.high true known;
      },
    )
    lower_held (suc zero) l = inl (
      low_y,
      record {
        listed = listed low_y (2, omega arith, refl);
        across = refl;
        at_plane = refl;
        covers = covers_y ten true;
        reflects = front_reflects species 1 low_y.rect.low low_y.rect.high true known;
      },
    )
    lower_held (suc (suc zero)) l = inl (
      low_z,
      record {
        listed = listed low_z (4, omega arith, refl);
        across = refl;
        at_plane = refl;
        covers = covers_z ten true;
        reflects = front_reflects species 2 low_z.rect.low low_z.rect.high true known;
      },
    )
    lower_held (suc (suc (suc axis))) l = absurd (omega arith)

    upper_held : (axis : ℕ) → axis < 3 → IsHeld draft species small_box axis (on_axis small_box.high axis) true
    upper_held zero l = inl (
      high_x,
      record {
        listed = listed high_x (1, omega arith, refl);
        across = refl;
        at_plane = refl;
        covers = covers_x twenty false;
        reflects = front_reflects species 0 high_x.rect.low high_x.rect.high false known;
      },
    )
    upper_held (suc zero) l = inl (
      high_y,
      record {
        listed = listed high_y (3, omega arith, refl);
        across = refl;
        at_plane = refl;
        covers = covers_y twenty false;
        reflects = front_reflects species 1 high_y.rect.low high_y.rect.high false known;
      },
    )
    upper_held (suc (suc zero)) l = inl (
      high_z,
      record {
        listed = listed high_z (5, omega arith, refl);
        across = refl;
        at_plane = refl;
        covers = covers_z twenty false;
        reflects = front_reflects species 2 high_z.rect.low high_z.rect.high false known;
      },
    )
    upper_held (suc (suc (suc axis))) l = absurd (omega arith)

  pub small_box_is_built : (species : ℕ) → species < length draft.species → IsBuilt draft species small_box
  small_box_is_built species within =
      let known : species < 2 = subst (λ n. species < n) has.species within in
      record {
        lower = λ axis used. lower_held species known axis (subst (λ n. axis < n) has.dims used);
        upper = λ axis used. upper_held species known axis (subst (λ n. axis < n) has.dims used);
        jumps = jumps_are species known;
        periods = periods_are;
      }
