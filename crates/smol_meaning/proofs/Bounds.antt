-- Each moment keeps a fold within its bounds.
use Rattle.std.proofs.Common.{⊎_elim, ◌≡◌, ℕ, zero, suc, ◌+◌, ◌^◌, ◌%◌, ◌<◌, ◌≤◌, ◌==◌, true, ◌⊎◌, inl, inr, List, [], ◌∷◌, length, refl, sym, ◌∙◌, ap, subst, arith, ℤ, pos, neg_ℤ, ◌+ℤ◌, ◌-ℤ◌, ◌*ℤ◌, unsigned_abs, get_or-set_same, get_or-set_other, length-set}
use Rattle.std.specs.List.{All}
use Rattle.std.specs.Prelude.{max}
use Rattle.std.proofs.lemmas.Bool.{cases_eq, cases_lt, cond_both, and_parts}
use Rattle.std.proofs.lemmas.Int.{ints}
use Rattle.smol_geom.specs.declared.place.Place.{Place}
use Rattle.smol_geom.specs.declared.place.Step3.{Step3}
use Rattle.smol_geom.specs.declared.moment.Moment.{Moment}
use Rattle.smol_geom.specs.declared.fold.Fold.{Fold}
use Rattle.smol_geom.specs.Axes.{EachAxis, on_axis}
use Rattle.smol_geom.specs.Fold.{IsSign, true_point}
use Rattle.smol_geom.specs.Fraction.{whole, ◌≤ℚ◌}
use Rattle.smol_geom.specs.Moment.{part_of}
use Rattle.smol_geom.specs.Moments.{Has, IsMoment, coordinate_after, ticks}
use Rattle.smol_geom.specs.Rect.{IsInRange}
use Rattle.smol_geom.proofs.EachAxis.{at_axis}
use Rattle.smol_geom.proofs.Lists.{all_had}
use Rattle.smol_geom.proofs.Ways.{low_products, high_products}
use Rattle.smol_types.specs.Limits.{farthest}
use Rattle.smol_meaning.specs.declared.way.Response.{Response}
use Rattle.smol_meaning.specs.declared.way.Response.TheVariants.{Reflect, Absorb, Jump, Pass}
use Rattle.smol_meaning.specs.declared.sheet.Sheet.{Sheet}
use Rattle.smol_meaning.specs.declared.sheet.Sheet.TheVariants.{Rectangle, Plane}
use Rattle.smol_meaning.specs.declared.way.Effect.{Effect}
use Rattle.smol_meaning.specs.Plates.{Plate, is_on, is_met, goes_up, effect_of, effects_met, deciding, plane_at, done_by, are_same, shifted, mirrored, sheet_axis, sheet_plane, IsOn}
use Rattle.smol_meaning.specs.Way.{after_effect, deciding_at, end_on}
use Rattle.smol_meaning.specs.Moves.{IsMove}
use Rattle.smol_meaning.specs.Folds.{IsSheet, IsPlate, IsResponse, IsJump, LandsWithin, FoldFits, StandingFits}
use Rattle.smol_meaning.proofs.Nearness.{IsNear, near_shifted, near_mirrored}
use Rattle.smol_meaning.proofs.Planes.{IsFlat, start_on, way_on, point_is, met_plane}
use Rattle.smol_meaning.proofs.Responses.{on_is, both_ends}

each : (P : ℕ → Type 0) → ((j : ℕ) → j < 3 → P j) → EachAxis P
each P h = (h 0 (omega arith), h 1 (omega arith), h 2 (omega arith))

-- what decides where no plate is met: the molecule passes as it is
abbrev pub unmet : ℕ → Effect
unmet species = record { response = Pass; species = species }

-- the plate whose effect decides
pub record Decides (plates : List Plate) (from : Place) (by : Step3) (f : Fold) (m : Moment) (species : ℕ) (effect : Effect) : Type 0 where
  pub plate : Plate
  pub listed : Has plates plate
  pub met : is_met from by f m plate.sheet ≡ true
  pub is : effect_of plate (goes_up by f m.axis) species ≡ effect

pub decided_by : (plates : List Plate) (from : Place) (by : Step3) (f : Fold) (m : Moment) (species : ℕ)
    → (deciding_at plates from by f m species ≡ unmet species) ⊎ Decides plates from by f m species (deciding_at plates from by f m species)
unfolding effects_met deciding
decided_by [] from by f m species = inl refl
decided_by (p ∷ plates) from by f m species =
    cond_both (is_met from by f m p.sheet) (effect_of p (goes_up by f m.axis) species ∷ effects_met plates from by f m species) (effects_met plates from by f m species)
    (λ effects. (deciding species effects ≡ unmet species) ⊎ Decides (p ∷ plates) from by f m species (deciding species effects))
    (λ e. cond_both _ (effect_of p (goes_up by f m.axis) species) (deciding_at plates from by f m species) (λ a. (a ≡ unmet species) ⊎ Decides (p ∷ plates) from by f m species a)
    (λ l. inr (record { plate = p; listed = inl refl; met = e; is = refl })) (λ l. further (decided_by plates from by f m species)))
    (λ e. further (decided_by plates from by f m species))
  where
    further : {a : Effect} → (a ≡ unmet species) ⊎ Decides plates from by f m species a → (a ≡ unmet species) ⊎ Decides (p ∷ plates) from by f m species a
    further (inl e) = inl e
    further (inr d) = inr (record { plate = d.plate; listed = inr d.listed; met = d.met; is = d.is })

pub flat_sheet : (sheet : Sheet) → IsSheet sheet → IsFlat sheet
flat_sheet (Rectangle rect) is = is.shape
flat_sheet (Plane axis plane) is = tt

pub plane_small : (sheet : Sheet) → IsSheet sheet → (unsigned_abs (sheet_plane sheet) ≤ farthest) × (unsigned_abs (sheet_plane sheet) % 2 ≡ 0)
plane_small (Rectangle rect) is = (at_axis (λ j. unsigned_abs (on_axis rect.low j) ≤ farthest) rect.axis is.shape.axis is.low, is.even)
plane_small (Plane axis plane) is = (is.size, is.even)

turned_sign : (s : ℤ) → IsSign s → IsSign (neg_ℤ s)
turned_sign s (inl e) = inr (ap neg_ℤ e)
turned_sign s (inr e) = inl (ap neg_ℤ e)

turned_even : (h p : ℤ) → unsigned_abs h % 2 ≡ 0 → unsigned_abs p % 2 ≡ 0 → unsigned_abs (pos 2 *ℤ p -ℤ h) % 2 ≡ 0
turned_even h p a b = omega (arith, ints)

sum_even : (h b : ℤ) → unsigned_abs h % 2 ≡ 0 → unsigned_abs b % 2 ≡ 0 → unsigned_abs (h +ℤ b) % 2 ≡ 0
sum_even h b x y = omega (arith, ints)

-- what a near fold's shift and end are within
near_size : (h a d : ℤ) → unsigned_abs h ≤ unsigned_abs a + unsigned_abs d + farthest → unsigned_abs a ≤ 2 ^ 57 → unsigned_abs d ≤ 2 ^ 34 → unsigned_abs h ≤ 2 ^ 58
near_size h a d near small_a small_d = omega (arith, near, small_a, small_d)

near_end : (e a d : ℕ) → e ≤ farthest + d → e ≤ max a farthest + d
near_end e a d near = omega (arith, near)

shifted_at : (f : Fold) (by : List ℤ) (j : ℕ) → j < 3 → on_axis (shifted f by).shift j ≡ on_axis f.shift j +ℤ on_axis by j
shifted_at f by zero l = refl
shifted_at f by (suc zero) l = refl
shifted_at f by (suc (suc zero)) l = refl
shifted_at f by (suc (suc (suc j))) l = absurd (omega arith)

module _ (dims : ℕ) (from : Place) (by : Step3) (move : IsMove dims from by) where
  -- what holds of a fold on one axis
  record Fits (f : Fold) (j : ℕ) : Type 0 where
    pub sign : IsSign (on_axis f.sign j)
    pub even : unsigned_abs (on_axis f.shift j) % 2 ≡ 0
    pub size : unsigned_abs (on_axis f.shift j) ≤ 2 ^ 58
    pub end : unsigned_abs (end_on from by f j) ≤ max (unsigned_abs (on_axis from.0 j)) farthest + unsigned_abs (on_axis by.0 j)
    pub unused : dims ≤ j → end_on from by f j ≡ on_axis from.0 j

  fits_from : (f : Fold) → length f.sign ≡ 3 → length f.shift ≡ 3 → ((j : ℕ) → j < 3 → Fits f j) → FoldFits dims from by f
  fits_from f signs shifts on =
      record {
        small = record {
          fold = each (λ j. IsSign (on_axis f.sign j)) (λ j l. (on j l).sign);
          signs = signs;
          shifts = shifts;
          even = each (λ j. unsigned_abs (on_axis f.shift j) % 2 ≡ 0) (λ j l. (on j l).even);
          size = each (λ j. unsigned_abs (on_axis f.shift j) ≤ 2 ^ 58) (λ j l. (on j l).size);
        };
        end = each (λ j. unsigned_abs (end_on from by f j) ≤ max (unsigned_abs (on_axis from.0 j)) farthest + unsigned_abs (on_axis by.0 j)) (λ j l. (on j l).end);
        unused = each (λ j. dims ≤ j → end_on from by f j ≡ on_axis from.0 j) (λ j l. (on j l).unused);
      }

  fits_on : (f : Fold) → FoldFits dims from by f → (j : ℕ) → j < 3 → Fits f j
  fits_on f fits j l =
      record {
        sign = at_axis (λ k. IsSign (on_axis f.sign k)) j l fits.small.fold;
        even = at_axis (λ k. unsigned_abs (on_axis f.shift k) % 2 ≡ 0) j l fits.small.even;
        size = at_axis (λ k. unsigned_abs (on_axis f.shift k) ≤ 2 ^ 58) j l fits.small.size;
        end = at_axis (λ k. unsigned_abs (end_on from by f k) ≤ max (unsigned_abs (on_axis from.0 k)) farthest + unsigned_abs (on_axis by.0 k)) j l fits.end;
        unused = at_axis (λ k. dims ≤ k → end_on from by f k ≡ on_axis from.0 k) j l fits.unused;
      }

  start_small : (j : ℕ) → j < 3 → unsigned_abs (on_axis from.0 j) ≤ 2 ^ 57
  start_small j l = at_axis (λ k. unsigned_abs (on_axis from.0 k) ≤ 2 ^ 57) j l move.place_size

  way_small : (j : ℕ) → j < 3 → unsigned_abs (on_axis by.0 j) ≤ 2 ^ 34
  way_small j l = at_axis (λ k. unsigned_abs (on_axis by.0 k) ≤ 2 ^ 34) j l move.step_size

  -- a moment's axis is in use
  pub used : (m : Moment) → IsMoment from by m → dims ≤ m.axis → ⊥
  used m is beyond =
      let still : on_axis by.0 m.axis ≡ pos 0 = at_axis (λ k. dims ≤ k → on_axis by.0 k ≡ pos 0) m.axis is.axis move.unused beyond in
      let none : ticks by m.axis ≡ 0 = ap unsigned_abs still in
      omega (arith, is.begun, is.unfinished, is.den, none)

  -- a near fold fits on an axis that is in use
  near_fits : (f : Fold) (j : ℕ) → j < 3 → (dims ≤ j → ⊥) → IsSign (on_axis f.sign j) → unsigned_abs (on_axis f.shift j) % 2 ≡ 0
      → IsNear (on_axis f.sign j) (on_axis from.0 j) (on_axis by.0 j) (on_axis f.shift j) farthest → Fits f j
  near_fits f j l in_use sign even near =
      record {
        sign = sign;
        even = even;
        size = near_size (on_axis f.shift j) (on_axis from.0 j) (on_axis by.0 j) near.shift (start_small j l) (way_small j l);
        end = near_end _ (unsigned_abs (on_axis from.0 j)) (unsigned_abs (on_axis by.0 j)) near.end;
        unused = λ beyond. absurd (in_use beyond);
      }

  -- what holds on an axis holds of each fold that is one there
  same_axis : (f g : Fold) (j : ℕ) → on_axis g.sign j ≡ on_axis f.sign j → on_axis g.shift j ≡ on_axis f.shift j → Fits f j → Fits g j
  same_axis f g j sign shift fits =
      record {
        sign = rw sign fits.sign;
        even = rw shift fits.even;
        size = rw shift fits.size;
        end = rw (sign, shift) fits.end;
        unused = λ beyond. rw (sign, shift) (fits.unused beyond);
      }

  module _ (m : Moment) (is : IsMoment from by m) where
    -- a fold that is mirrored at a near plane fits
    mirrored_fits : (g : Fold) (p : ℤ) → length g.sign ≡ 3 → length g.shift ≡ 3
        → IsSign (on_axis g.sign m.axis) → unsigned_abs (on_axis g.shift m.axis) % 2 ≡ 0
        → ((j : ℕ) → j < 3 → (j ≡ m.axis → ⊥) → Fits g j)
        → unsigned_abs p ≤ farthest → unsigned_abs p % 2 ≡ 0
        → p ≡ on_axis g.sign m.axis *ℤ coordinate_after from by m.axis m.num +ℤ on_axis g.shift m.axis → FoldFits dims from by (mirrored g m.axis p)
    mirrored_fits g p signs shifts sign even_shift others small even_plane at_plane =
        fits_from (mirrored g m.axis p) (length-set g.sign m.axis _ ∙ signs) (length-set g.shift m.axis _ ∙ shifts) (λ j l. ⊎_elim
        (λ (same : j ≡ m.axis). subst (λ k. Fits (mirrored g m.axis p) k) (sym same) own)
        (λ (other : j ≡ m.axis → ⊥). same_axis g (mirrored g m.axis p) j
        (get_or-set_other g.sign m.axis j (neg_ℤ (on_axis g.sign m.axis)) (pos 0) other)
        (get_or-set_other g.shift m.axis j (pos 2 *ℤ p -ℤ on_axis g.shift m.axis) (pos 0) other)
        (others j l other))
        (cases_eq j m.axis))
      where
        here_sign : on_axis (mirrored g m.axis p).sign m.axis ≡ neg_ℤ (on_axis g.sign m.axis)
        here_sign = get_or-set_same g.sign m.axis (neg_ℤ (on_axis g.sign m.axis)) (pos 0) (omega (arith, is.axis, signs))

        here_shift : on_axis (mirrored g m.axis p).shift m.axis ≡ pos 2 *ℤ p -ℤ on_axis g.shift m.axis
        here_shift = get_or-set_same g.shift m.axis (pos 2 *ℤ p -ℤ on_axis g.shift m.axis) (pos 0) (omega (arith, is.axis, shifts))

        own : Fits (mirrored g m.axis p) m.axis
        own =
            near_fits (mirrored g m.axis p) m.axis is.axis (used m is) (rw here_sign (turned_sign _ sign)) (rw here_shift (turned_even (on_axis g.shift m.axis) p even_shift even_plane))
            (rw (here_sign, here_shift)
            (near_mirrored (on_axis g.sign m.axis) (on_axis from.0 m.axis) (on_axis by.0 m.axis) (on_axis g.shift m.axis) p m.num farthest sign (omega (arith, is.unfinished, is.den)) small at_plane))

    module _ (f : Fold) (fits : FoldFits dims from by f) where
      sign_on : (j : ℕ) → j < 3 → IsSign (on_axis f.sign j)
      sign_on j l = at_axis (λ k. IsSign (on_axis f.sign k)) j l fits.small.fold

      even_on : (j : ℕ) → j < 3 → unsigned_abs (on_axis f.shift j) % 2 ≡ 0
      even_on j l = at_axis (λ k. unsigned_abs (on_axis f.shift k) % 2 ≡ 0) j l fits.small.even

      -- a jump from a sheet that is met keeps the bounds on each axis
      module _ (shift : List ℤ) where
        stays_on : (j : ℕ) → j < 3 → on_axis shift j ≡ pos 0 → Fits (shifted f shift) j
        stays_on j l none =
            same_axis f (shifted f shift) j refl (shifted_at f shift j l ∙ ap (λ z. on_axis f.shift j +ℤ z) none ∙ add_none (on_axis f.shift j)) (fits_on f fits j l)
          where
            add_none : (h : ℤ) → h +ℤ pos 0 ≡ h
            add_none h = omega (arith, ints)

        lands_on : (j : ℕ) (low high : ℤ) → j < 3 → (dims ≤ j → ⊥) → unsigned_abs (on_axis shift j) % 2 ≡ 0
            → unsigned_abs (low +ℤ on_axis shift j) ≤ farthest → unsigned_abs (high +ℤ on_axis shift j) ≤ farthest
            → whole low ≤ℚ true_point f from by (part_of m) j → true_point f from by (part_of m) j ≤ℚ whole high → Fits (shifted f shift) j
        lands_on j low high l in_use even small_low small_high above below =
            let at = shifted_at f shift j l in
            near_fits (shifted f shift) j l in_use (sign_on j l) (rw at (sum_even (on_axis f.shift j) (on_axis shift j) (even_on j l) even))
            (subst (λ z. IsNear (on_axis f.sign j) (on_axis from.0 j) (on_axis by.0 j) z farthest) (sym at)
            (near_shifted (on_axis f.sign j) (on_axis from.0 j) (on_axis by.0 j) (on_axis f.shift j) (on_axis shift j) low high m.num m.den farthest (sign_on j l)
            (omega (arith, is.begun, is.unfinished)) (omega (arith, is.unfinished)) small_low small_high
            (low_products low (start_on f from j) (way_on f by j) (part_of m) (subst (λ x. whole low ≤ℚ x) (sym (point_is from by f m j)) above))
            (high_products high (start_on f from j) (way_on f by j) (part_of m) (subst (λ x. x ≤ℚ whole high) (sym (point_is from by f m j)) below))))

        shifted_on : (sheet : Sheet) → IsSheet sheet → IsOn sheet (true_point f from by (part_of m)) → IsJump dims sheet shift → (j : ℕ) → j < 3 → Fits (shifted f shift) j
        shifted_on (Rectangle rect) sheet on jump j l = ⊎_elim
            (λ (within : j < dims).
            let held = at_axis (λ k. IsInRange rect k (true_point f from by (part_of m) k)) j l on in
            let lands = at_axis (λ k. (unsigned_abs (on_axis rect.low k +ℤ on_axis shift k) ≤ farthest) × (unsigned_abs (on_axis rect.high k +ℤ on_axis shift k) ≤ farthest)) j l jump.lands in
            lands_on j (on_axis rect.low j) (on_axis rect.high j) l (λ beyond. omega (arith, within, beyond)) (at_axis (λ k. unsigned_abs (on_axis shift k) % 2 ≡ 0) j l jump.even) lands.0 lands.1 held.low held.high)
            (λ (beyond : dims ≤ j). stays_on j l (at_axis (λ k. dims ≤ k → on_axis shift k ≡ pos 0) j l jump.unused beyond))
            (cases_lt j dims)
        shifted_on (Plane axis plane) sheet on jump j l = ⊎_elim
            (λ (same : j ≡ axis). ⊎_elim
            (λ (within : j < dims).
            let here : unsigned_abs (plane +ℤ on_axis shift j) ≤ farthest = subst (λ k. unsigned_abs (plane +ℤ on_axis shift k) ≤ farthest) (sym same) jump.lands.0 in
            let ends = on_plane j same in
            lands_on j plane plane l (λ beyond. omega (arith, within, beyond)) (at_axis (λ k. unsigned_abs (on_axis shift k) % 2 ≡ 0) j l jump.even) here here ends.0 ends.1)
            (λ (beyond : dims ≤ j). stays_on j l (at_axis (λ k. dims ≤ k → on_axis shift k ≡ pos 0) j l jump.unused beyond))
            (cases_lt j dims))
            (λ (other : j ≡ axis → ⊥). stays_on j l (at_axis (λ k. (k ≡ axis → ⊥) → on_axis shift k ≡ pos 0) j l jump.lands.1 other))
            (cases_eq j axis)
          where
            on_plane : (k : ℕ) → k ≡ axis → (whole plane ≤ℚ true_point f from by (part_of m) k) × (true_point f from by (part_of m) k ≤ℚ whole plane)
            on_plane k same = subst (λ i. (whole plane ≤ℚ true_point f from by (part_of m) i) × (true_point f from by (part_of m) i ≤ℚ whole plane)) (sym same)
                (both_ends plane (true_point f from by (part_of m) axis).num (pos (true_point f from by (part_of m) axis).den) on)

      -- the plane that a jump leads to is near
      landing : (sheet : Sheet) (shift : List ℤ) → IsSheet sheet → LandsWithin sheet shift → unsigned_abs (sheet_plane sheet +ℤ on_axis shift (sheet_axis sheet)) ≤ farthest
      landing (Rectangle rect) shift sheet lands =
          (at_axis (λ k. (unsigned_abs (on_axis rect.low k +ℤ on_axis shift k) ≤ farthest) × (unsigned_abs (on_axis rect.high k +ℤ on_axis shift k) ≤ farthest)) rect.axis sheet.shape.axis lands).0
      landing (Plane axis plane) shift sheet lands = lands.0

      sum_is : (x h b g : ℤ) → g ≡ h +ℤ b → (x +ℤ h) +ℤ b ≡ x +ℤ g
      sum_is x h b g e = omega (arith, ints, e)

      -- the fold after a moment fits
      module _ (plates : List Plate) (all : All (IsPlate dims) plates) where
        outcome : (response : Response) (next : ℕ) (plate : Plate) → IsPlate dims plate → is_met from by f m plate.sheet ≡ true → IsResponse dims plate.sheet response
            → StandingFits dims from by (done_by from by f m response next)
        outcome Pass next plate p_fit met fit = fits
        outcome (Absorb n) next plate p_fit met fit = tt
        outcome Reflect next plate p_fit met fit =
            let at = met_plane from by f m (sign_on m.axis is.axis) is plate.sheet (flat_sheet plate.sheet p_fit.sheet) met in
            let small = plane_small plate.sheet p_fit.sheet in
            mirrored_fits f (plane_at from by f m) fits.small.signs fits.small.shifts (sign_on m.axis is.axis) (even_on m.axis is.axis) (λ j l other. fits_on f fits j l)
            (subst (λ z. unsigned_abs z ≤ farthest) (sym at.1) small.0) (subst (λ z. unsigned_abs z % 2 ≡ 0) (sym at.1) small.1) refl
        outcome (Jump shift up) next plate p_fit met fit =
            let at = met_plane from by f m (sign_on m.axis is.axis) is plate.sheet (flat_sheet plate.sheet p_fit.sheet) met in
            let on = on_is plate.sheet (true_point f from by (part_of m)) (and_parts (sheet_axis plate.sheet == m.axis) (is_on plate.sheet (true_point f from by (part_of m))) met).1 in
            let there = shifted_on shift plate.sheet p_fit.sheet on fit in
            let small = plane_small plate.sheet p_fit.sheet in
            let even = at_axis (λ k. unsigned_abs (on_axis shift k) % 2 ≡ 0) m.axis is.axis fit.even in
            cond_both (are_same (goes_up by f m.axis) up) (shifted f shift) (mirrored (shifted f shift) m.axis (plane_at from by f m +ℤ on_axis shift m.axis)) (FoldFits dims from by)
            (λ e. fits_from (shifted f shift) fits.small.signs refl there)
            (λ e. mirrored_fits (shifted f shift) (plane_at from by f m +ℤ on_axis shift m.axis) fits.small.signs refl (sign_on m.axis is.axis) (there m.axis is.axis).even
            (λ j l other. there j l)
            (subst (λ z. unsigned_abs z ≤ farthest) (λ i. sym at.1 i +ℤ on_axis shift (sym at.0 i)) (landing plate.sheet shift p_fit.sheet fit.lands))
            (sum_even (plane_at from by f m) (on_axis shift m.axis) (subst (λ z. unsigned_abs z % 2 ≡ 0) (sym at.1) small.1) even)
            (sum_is (on_axis f.sign m.axis *ℤ coordinate_after from by m.axis m.num) (on_axis f.shift m.axis) (on_axis shift m.axis) (on_axis (shifted f shift).shift m.axis) (shifted_at f shift m.axis is.axis)))

        pub outcome_fits : (species : ℕ) → StandingFits dims from by (after_effect from by f m (deciding_at plates from by f m species))
        outcome_fits species = ⊎_elim
            (λ (e : effect ≡ unmet species). subst (λ one. StandingFits dims from by (after_effect from by f m one)) (sym e) fits)
            (λ (d : Decides plates from by f m species effect).
            let p_fit = all_had (IsPlate dims) plates d.plate d.listed all in
            outcome effect.response effect.species d.plate p_fit d.met (subst (λ (one : Effect). IsResponse dims d.plate.sheet one.response) d.is (p_fit.responses (goes_up by f m.axis) species)))
            (decided_by plates from by f m species)
          where
            effect : Effect
            effect = deciding_at plates from by f m species
