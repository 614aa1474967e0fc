-- What is inside a closed reflecting box stays inside.
use Rattle.std.proofs.Common.{⊎_elim, ◌≡◌, ℕ, zero, suc, ◌+◌, ◌*◌, ◌%◌, ◌<◌, ◌≤◌, Bool, true, false, ◌==◌, ◌⊎◌, inl, inr, List, [], ◌∷◌, length, cond, refl, sym, ◌∙◌, ap, subst, arith, ℤ, pos, neg_ℤ, ◌+ℤ◌, ◌-ℤ◌, ◌*ℤ◌, ◌≤ℤ◌, ◌<ℤ◌, int_lt, unsigned_abs, get_or-set_same, get_or-set_other, length-set}
use Rattle.std.specs.Prelude.{All}
use Rattle.std.proofs.lemmas.Bool.{cases_eq, cases_lt, cond_both, and_from, and_parts, eq-eqb, ne_eqb}
use Rattle.std.proofs.lemmas.Int.{ints}
use Rattle.std.proofs.Math.Nat.{mul-le-mul_left, mul-le-mul_right}
use Rattle.smol_geom.specs.declared.place.Place.{Place}
use Rattle.smol_geom.specs.declared.place.Step3.{Step3}
use Rattle.smol_geom.specs.declared.moment.Moment.{Moment}
use Rattle.smol_geom.specs.declared.fold.Fold.{Fold}
use Rattle.smol_geom.specs.declared.cuboid.Cuboid.{Cuboid}
use Rattle.smol_geom.specs.Axes.{on_axis, IsOdd, IsEven}
use Rattle.smol_geom.specs.Fraction.{Fraction, IsNumber, whole, ◌≤ℚ◌}
use Rattle.smol_geom.specs.Fold.{IsSign, true_point}
use Rattle.smol_geom.specs.Moment.{part_of}
use Rattle.smol_geom.specs.Moments.{Has, IsMoment, ticks, moment_of, moments}
use Rattle.smol_geom.specs.Part.{scaled_way}
use Rattle.smol_geom.specs.Rect.{IsInRange}
use Rattle.smol_geom.proofs.Cells.{centre, ahead, IsCell, IsDouble, even_double, odd_half, in_cell, cell_through, centre_turned, signed_size, plane_folded, mirrored_start, mirrored_way, end_centre}
use Rattle.smol_geom.proofs.Counts.{Left, more, all_left, rest_left, at_odd, head_num, not_ahead, not_behind, m_is}
use Rattle.smol_geom.proofs.EachAxis.{at_axis}
use Rattle.smol_geom.proofs.Folds.{folded_point}
use Rattle.smol_geom.proofs.Integers.{sums, mul_le_ℤ, cancel_mul_ℤ}
use Rattle.smol_geom.proofs.Lists.{has_contained, contains_had, all_had}
use Rattle.smol_geom.proofs.Ways.{above_low, below_high, same_range}
use Rattle.smol_meaning.specs.declared.way.Effect.{Effect}
use Rattle.smol_meaning.specs.declared.way.Response.{Response}
use Rattle.smol_meaning.specs.declared.way.Response.TheVariants.{Reflect, Absorb, Jump, Pass}
use Rattle.smol_meaning.specs.declared.way.Standing.{Standing}
use Rattle.smol_meaning.specs.declared.way.Standing.TheVariants.{Goes, Gone}
use Rattle.smol_meaning.specs.Box.{IsInside, IsInRegion, Covers, IsFaceShut, StaysAmong, StaysPut, IsClosed, LiesFrom, StaysInRegion, EndsInside, Confines}
use Rattle.smol_meaning.specs.Folds.{IsPlate}
use Rattle.smol_meaning.specs.Moves.{IsMove}
use Rattle.smol_meaning.specs.declared.sheet.Sheet.{Sheet}
use Rattle.smol_meaning.specs.declared.sheet.Sheet.TheVariants.{Rectangle, Plane}
use Rattle.smol_meaning.specs.Plates.{Plate, is_met, is_on, goes_up, effect_of, response_of, precedence, done_by, plane_at, mirrored, sheet_axis, sheet_plane}
use Rattle.smol_meaning.specs.Way.{after_moment, after_moments, deciding_at, end_on, ended, straight, way_among}
use Rattle.smol_meaning.proofs.Bounds.{Decides, decided_by, flat_sheet, plane_small, unmet, used}
use Rattle.smol_meaning.proofs.Planes.{IsFlat, start_on, way_on, point_is, plane_met, between_plane}
use Rattle.smol_meaning.proofs.Responses.{reflect_decides, on_is, holds_from}

-- after the counted ticks the molecule is in a cell within the box, on each axis
pub record Inside (box : Cuboid) (from : Place) (by : Step3) (f : Fold) (c : ℕ → ℕ) : Type 0 where
  pub cells : (j : ℕ) → j < 3 → IsCell (on_axis box.low j) (on_axis box.high j) (centre (start_on f from j) (way_on f by j) (c j))
  pub signs : (j : ℕ) → j < 3 → IsSign (on_axis f.sign j)
  pub sign_count : length f.sign ≡ 3
  pub shift_count : length f.shift ≡ 3

-- and is of a species among these
abbrev pub StaysInside : (ℕ → Bool) → Cuboid → Place → Step3 → (ℕ → ℕ) → Standing → Type 0
StaysInside among box from by c (Goes f species) = Inside box from by f c × (among species ≡ true)
StaysInside among box from by c (Gone n) = Unit {0}

module _ (box : Cuboid) (from : Place) (by : Step3) (odd : (j : ℕ) → j < 3 → IsOdd (on_axis from.0 j)) (f : Fold) (c : ℕ → ℕ) (m : Moment) (ms : List Moment) (left : Left from by odd c (m ∷ ms)) (inside : Inside box from by f c) where
  bounds : (j : ℕ) → j < 3
      → ((on_axis box.low j *ℤ pos m.den) ≤ℤ scaled_way (start_on f from j) (way_on f by j) (part_of m))
      × (scaled_way (start_on f from j) (way_on f by j) (part_of m) ≤ℤ (on_axis box.high j *ℤ pos m.den))
  bounds j l =
      let size = signed_size (on_axis f.sign j) (on_axis by.0 j) (inside.signs j l) in
      let grown : m.num * unsigned_abs (way_on f by j) ≡ m.num * ticks by j = ap (λ n. m.num * n) size in
      in_cell (on_axis box.low j) (on_axis box.high j) (start_on f from j) (way_on f by j) (c j) (part_of m) m.num refl (inside.cells j l)
      (omega (arith, grown, not_behind from by odd c m ms left j l))
      (omega (arith, grown, not_ahead from by odd c m ms left j l))

  -- at the next moment the true point is in the closed region
  pub true_in_region : IsInRegion box (true_point f from by (part_of m))
  true_in_region j l =
      let b = bounds j l in
      let low = above_low (on_axis box.low j) (start_on f from j) (way_on f by j) (part_of m) b.0 in
      let high = below_high (on_axis box.high j) (start_on f from j) (way_on f by j) (part_of m) b.1 in
      record {
        number = let is = m_is from by odd c m ms left in omega (arith, is.begun, is.unfinished);
        above = subst (λ x. whole (on_axis box.low j) ≤ℚ x) (point_is from by f m j) low;
        below = subst (λ x. x ≤ℚ whole (on_axis box.high j)) (point_is from by f m j) high;
      }

  i_in : m.axis < 3
  i_in = (m_is from by odd c m ms left).axis

  moves : 0 < ticks by m.axis
  moves = let is = m_is from by odd c m ms left in omega (arith, is.begun, is.unfinished, is.den)

  -- the plane of the moment is the next even number ahead
  plane_is : plane_at from by f m ≡ ahead (start_on f from m.axis) (way_on f by m.axis) (c m.axis)
  plane_is =
      plane_folded (on_axis f.sign m.axis) (on_axis from.0 m.axis) (on_axis by.0 m.axis) (on_axis f.shift m.axis) m.num (inside.signs m.axis i_in) moves
      ∙ ap (λ n. cond (int_lt (pos 0) (way_on f by m.axis)) (start_on f from m.axis +ℤ pos n) (start_on f from m.axis -ℤ pos n)) (head_num from by odd c m ms left)

  at_most : (a b : ℤ) → a ≡ b → (a ≤ℤ b) × (b ≤ℤ a)
  at_most a b e = (omega (arith, ints, e), omega (arith, ints, e))

  -- a plate that holds the whole face at the plane of the moment is met
  face_met : (sheet : Sheet) → IsFlat sheet → sheet_axis sheet ≡ m.axis → sheet_plane sheet ≡ plane_at from by f m → Covers sheet box → is_met from by f m sheet ≡ true
  face_met (Plane axis plane) flat across at covers = plane_met from by f m (inside.signs m.axis i_in) (m_is from by odd c m ms left) axis plane across at
  face_met (Rectangle rect) flat across at covers =
      and_from _ _ (eq-eqb rect.axis m.axis across) (holds_from rect (true_point f from by (part_of m)) (on 0 (omega arith), on 1 (omega arith), on 2 (omega arith)))
    where
      low_at : on_axis rect.low m.axis ≡ plane_at from by f m
      low_at = ap (on_axis rect.low) (sym across) ∙ at

      high_at : on_axis rect.high m.axis ≡ plane_at from by f m
      high_at = ap (on_axis rect.high) (sym across) ∙ sym flat.flat ∙ at

      on_own : IsInRange rect m.axis (true_point f from by (part_of m) m.axis)
      on_own =
          let ends = between_plane from by f m (inside.signs m.axis i_in) (m_is from by odd c m ms left) (on_axis rect.low m.axis) (on_axis rect.high m.axis)
          (at_most (on_axis rect.low m.axis) (plane_at from by f m) low_at).0 (at_most (on_axis rect.high m.axis) (plane_at from by f m) high_at).1 in
          record { low = ends.0; high = ends.1 }

      on_other : (j : ℕ) → j < 3 → (j ≡ m.axis → ⊥) → IsInRange rect j (true_point f from by (part_of m) j)
      on_other j l other =
          let b = bounds j l in
          let reach = covers j l (λ e. other (e ∙ across)) in
          let low = mul_le_ℤ (on_axis rect.low j) (on_axis box.low j) m.den reach.0 in
          let high = mul_le_ℤ (on_axis box.high j) (on_axis rect.high j) m.den reach.1 in
          same_range rect j _ _ (point_is from by f m j) (record {
            low = above_low (on_axis rect.low j) (start_on f from j) (way_on f by j) (part_of m) (omega (arith, sums, b.0, low));
            high = below_high (on_axis rect.high j) (start_on f from j) (way_on f by j) (part_of m) (omega (arith, sums, b.1, high));
          })

      on : (j : ℕ) → j < 3 → IsInRange rect j (true_point f from by (part_of m) j)
      on j l = ⊎_elim
          (λ (same : j ≡ m.axis). subst (λ k. IsInRange rect k (true_point f from by (part_of m) k)) (sym same) on_own)
          (λ (other : j ≡ m.axis → ⊥). on_other j l other)
          (cases_eq j m.axis)

  module _ (dims : ℕ) (move : IsMove dims from by) (plates : List Plate) (among : ℕ → Bool) (all : All (IsPlate dims) plates) (closed : IsClosed dims plates among box) (species : ℕ) (kin : among species ≡ true) where
    in_use : m.axis < dims
    in_use = ⊎_elim (λ (l : m.axis < dims). l) (λ (beyond : dims ≤ m.axis). absurd (used dims from by move m (m_is from by odd c m ms left) beyond)) (cases_lt m.axis dims)

    -- the planes of the faces across the axis are even
    face_even : (plane : ℤ) (upper : Bool) → IsFaceShut plates species box m.axis plane upper → IsDouble plane
    face_even plane upper face =
        let fit = all_had (IsPlate dims) plates face.plate (has_contained plates face.plate face.listed) all in
        even_double plane (subst (λ z. unsigned_abs z % 2 ≡ 0) face.at_plane (plane_small face.plate.sheet fit.sheet).1)

    -- what decides
    abbrev effect : Effect
    effect = deciding_at plates from by f m species

    -- it moves the molecule nowhere else, and makes one of the species among these of it
    stays_among : StaysAmong among effect
    stays_among = ⊎_elim
        (λ (e : effect ≡ unmet species). subst (StaysAmong among) (sym e) (record { put = tt; kin = kin }))
        (λ (d : Decides plates from by f m species effect). subst (StaysAmong among) d.is (by_plate d.plate d.listed d.met))
        (decided_by plates from by f m species)
      where
        by_plate : (p : Plate) → Has plates p → is_met from by f m p.sheet ≡ true → StaysAmong among (effect_of p (goes_up by f m.axis) species)
        by_plate p listed met =
            let on = on_is p.sheet (true_point f from by (part_of m)) (and_parts (sheet_axis p.sheet == m.axis) (is_on p.sheet (true_point f from by (part_of m))) met).1 in
            closed.quiet p (contains_had plates p listed) (true_point f from by (part_of m)) true_in_region on species kin (goes_up by f m.axis)

    -- where a face is at the plane of the moment, and the motion leads outwards, the motion is reflected
    turns_at : (up : Bool) (plane : ℤ) → goes_up by f m.axis ≡ up → IsFaceShut plates species box m.axis plane up
        → ahead (start_on f from m.axis) (way_on f by m.axis) (c m.axis) ≡ plane → effect.response ≡ Reflect
    turns_at up plane dir face there =
        let listed = has_contained plates face.plate face.listed in
        let fit = all_had (IsPlate dims) plates face.plate listed all in
        reflect_decides from by f m species plates face.plate listed
        (face_met face.plate.sheet (flat_sheet face.plate.sheet fit.sheet) face.across (face.at_plane ∙ sym there ∙ sym plane_is) face.covers)
        (ap (λ x. response_of face.plate x species) dir ∙ face.reflects)

    -- where the motion isn't reflected, it goes on within the box
    goes_through : (effect.response ≡ Reflect → ⊥) → Inside box from by f (more c m.axis)
    goes_through not_turned =
        record {
          cells = λ j l. ⊎_elim
              (λ (same : j ≡ m.axis). rw (eq-eqb j m.axis same)
              (cell_through (on_axis box.low j) (on_axis box.high j) (start_on f from j) (way_on f by j) (c j) (subst (λ k. IsDouble (on_axis box.low k)) (sym same) (face_even (on_axis box.low m.axis) false (closed.lower species kin m.axis in_use))) (subst (λ k. IsDouble (on_axis box.high k)) (sym same) (face_even (on_axis box.high m.axis) true (closed.upper species kin m.axis in_use))) (inside.cells j l)
              (λ up at. not_turned (subst (λ k. int_lt (pos 0) (way_on f by k) ≡ true → ahead (start_on f from k) (way_on f by k) (c k) ≡ on_axis box.high k → effect.response ≡ Reflect) (sym same)
              (λ u a. turns_at true (on_axis box.high m.axis) u (closed.upper species kin m.axis in_use) a) up at))
              (λ down at. not_turned (subst (λ k. int_lt (pos 0) (way_on f by k) ≡ false → ahead (start_on f from k) (way_on f by k) (c k) ≡ on_axis box.low k → effect.response ≡ Reflect) (sym same)
              (λ u a. turns_at false (on_axis box.low m.axis) u (closed.lower species kin m.axis in_use) a) down at))))
              (λ (other : j ≡ m.axis → ⊥). rw (ne_eqb j m.axis other) (inside.cells j l))
              (cases_eq j m.axis);
          signs = inside.signs;
          sign_count = inside.sign_count;
          shift_count = inside.shift_count;
        }

    sign_here : on_axis (mirrored f m.axis (plane_at from by f m)).sign m.axis ≡ neg_ℤ (on_axis f.sign m.axis)
    sign_here = get_or-set_same f.sign m.axis _ _ (omega (arith, i_in, inside.sign_count))

    shift_here : on_axis (mirrored f m.axis (plane_at from by f m)).shift m.axis ≡ pos 2 *ℤ plane_at from by f m -ℤ on_axis f.shift m.axis
    shift_here = get_or-set_same f.shift m.axis _ _ (omega (arith, i_in, inside.shift_count))

    sign_other : (j : ℕ) → (j ≡ m.axis → ⊥) → on_axis (mirrored f m.axis (plane_at from by f m)).sign j ≡ on_axis f.sign j
    sign_other j other = get_or-set_other f.sign m.axis j _ _ other

    shift_other : (j : ℕ) → (j ≡ m.axis → ⊥) → on_axis (mirrored f m.axis (plane_at from by f m)).shift j ≡ on_axis f.shift j
    shift_other j other = get_or-set_other f.shift m.axis j _ _ other

    turned_sign : (s : ℤ) → IsSign s → IsSign (neg_ℤ s)
    turned_sign s (inl e) = inr (ap neg_ℤ e)
    turned_sign s (inr e) = inl (ap neg_ℤ e)

    -- the cell of the axis stays
    here_is : centre (start_on (mirrored f m.axis (plane_at from by f m)) from m.axis) (way_on (mirrored f m.axis (plane_at from by f m)) by m.axis) (c m.axis + 1)
        ≡ centre (start_on f from m.axis) (way_on f by m.axis) (c m.axis)
    here_is =
        (λ i. centre (start_turned i) (way_turned i) (c m.axis + 1))
        ∙ centre_turned (start_on f from m.axis) (way_on f by m.axis) (c m.axis)
        (subst (λ n. 0 < n) (sym (signed_size (on_axis f.sign m.axis) (on_axis by.0 m.axis) (inside.signs m.axis i_in))) moves)
      where
        start_turned : start_on (mirrored f m.axis (plane_at from by f m)) from m.axis ≡ pos 2 *ℤ ahead (start_on f from m.axis) (way_on f by m.axis) (c m.axis) -ℤ start_on f from m.axis
        start_turned =
            (λ i. sign_here i *ℤ on_axis from.0 m.axis +ℤ shift_here i)
            ∙ mirrored_start (on_axis f.sign m.axis) (on_axis from.0 m.axis) (on_axis f.shift m.axis) (plane_at from by f m)
            ∙ ap (λ z. pos 2 *ℤ z -ℤ start_on f from m.axis) plane_is

        way_turned : way_on (mirrored f m.axis (plane_at from by f m)) by m.axis ≡ neg_ℤ (way_on f by m.axis)
        way_turned =
            ap (λ z. z *ℤ on_axis by.0 m.axis) sign_here ∙ mirrored_way (on_axis f.sign m.axis) (on_axis by.0 m.axis)

    -- where it is reflected, it turns back into the box
    turns_back : Inside box from by (mirrored f m.axis (plane_at from by f m)) (more c m.axis)
    turns_back =
        record {
          cells = λ j l. ⊎_elim
              (λ (same : j ≡ m.axis). subst (λ k. IsCell (on_axis box.low k) (on_axis box.high k) (centre (start_on (mirrored f m.axis (plane_at from by f m)) from k) (way_on (mirrored f m.axis (plane_at from by f m)) by k) (more c m.axis k))) (sym same)
              (rw (eq-eqb m.axis m.axis refl) (subst (IsCell (on_axis box.low m.axis) (on_axis box.high m.axis)) (sym here_is) (inside.cells m.axis i_in))))
              (λ (other : j ≡ m.axis → ⊥). rw (ne_eqb j m.axis other, sign_other j other, shift_other j other) (inside.cells j l))
              (cases_eq j m.axis);
          signs = λ j l. ⊎_elim
              (λ (same : j ≡ m.axis). subst (λ k. IsSign (on_axis (mirrored f m.axis (plane_at from by f m)).sign k)) (sym same) (rw sign_here (turned_sign _ (inside.signs m.axis i_in))))
              (λ (other : j ≡ m.axis → ⊥). rw (sign_other j other) (inside.signs j l))
              (cases_eq j m.axis);
          sign_count = length-set f.sign m.axis _ ∙ inside.sign_count;
          shift_count = length-set f.shift m.axis _ ∙ inside.shift_count;
        }

    -- a moment keeps it inside
    pub stays_inside : StaysInside among box from by (more c m.axis) (after_moment plates from by (Goes f species) m)
    stays_inside = go effect.response effect.species refl stays_among.put stays_among.kin
      where
        go : (response : Response) (next : ℕ) → effect.response ≡ response → StaysPut response → among next ≡ true → StaysInside among box from by (more c m.axis) (done_by from by f m response next)
        go Reflect next e quiet is = (turns_back, is)
        go (Absorb n) next e quiet is = tt
        go (Jump by_ up) next e quiet is = absurd quiet
        go Pass next e quiet is = (goes_through (λ r. no (ap precedence (sym e ∙ r))), is)
          where
            no : precedence Pass ≡ precedence Reflect → ⊥
            no h = omega (arith, h)

-- a part of the move at which each axis is within one tick of what it has made: the true point is in the region
module _ (box : Cuboid) (from : Place) (by : Step3) (f : Fold) (c : ℕ → ℕ) (inside : Inside box from by f c) (t : Fraction) (number : IsNumber t) (num : ℕ) (is : t.num ≡ pos num) where
  in_region_at : ((j : ℕ) → j < 3 → 2 * c j * t.den ≤ num * ticks by j + t.den) → ((j : ℕ) → j < 3 → num * ticks by j ≤ 2 * c j * t.den + t.den)
      → IsInRegion box (true_point f from by t)
  in_region_at behind ahead_ j l =
      let size = signed_size (on_axis f.sign j) (on_axis by.0 j) (inside.signs j l) in
      let grown : num * unsigned_abs (way_on f by j) ≡ num * ticks by j = ap (λ n. num * n) size in
      let point = folded_point (on_axis f.sign j) (on_axis from.0 j) (on_axis by.0 j) (on_axis f.shift j) (start_on f from j) (way_on f by j) t refl refl in
      let b = in_cell (on_axis box.low j) (on_axis box.high j) (start_on f from j) (way_on f by j) (c j) t num is (inside.cells j l) (omega (arith, grown, behind j l)) (omega (arith, grown, ahead_ j l)) in
      record {
        number = omega (arith, number);
        above = subst (λ x. whole (on_axis box.low j) ≤ℚ x) point (above_low (on_axis box.low j) (start_on f from j) (way_on f by j) t b.0);
        below = subst (λ x. x ≤ℚ whole (on_axis box.high j)) point (below_high (on_axis box.high j) (start_on f from j) (way_on f by j) t b.1);
      }

-- what is made at one part is made at each later one, and what isn't exceeded at one part isn't at an earlier one
behind_later : (made ln ld tn td d : ℕ) → 0 < ld → made * ld ≤ ln * d + ld → ln * td ≤ tn * ld → made * td ≤ tn * d + td
behind_later made ln ld tn td d some first second =
    ⊎_elim (λ (wrong : tn * d + td < made * td). absurd (no wrong)) (λ (fine : made * td ≤ tn * d + td). fine) (cases_lt (tn * d + td) (made * td))
  where
    no : tn * d + td < made * td → ⊥
    no wrong =
        let w : (tn * d + td + 1) * ld ≤ (made * td) * ld = mul-le-mul_right ld (omega (arith, wrong)) in
        let f = mul-le-mul_right td first in
        let s = mul-le-mul_right d second in
        omega (arith, w, f, s, some)

ahead_earlier : (made mn md tn td d : ℕ) → 0 < md → mn * d ≤ made * md + md → tn * md ≤ mn * td → tn * d ≤ made * td + td
ahead_earlier made mn md tn td d some first second =
    ⊎_elim (λ (wrong : made * td + td < tn * d). absurd (no wrong)) (λ (fine : tn * d ≤ made * td + td). fine) (cases_lt (made * td + td) (tn * d))
  where
    no : made * td + td < tn * d → ⊥
    no wrong =
        let w : (made * td + td + 1) * md ≤ (tn * d) * md = mul-le-mul_right md (omega (arith, wrong)) in
        let f = mul-le-mul_right td first in
        let s = mul-le-mul_right d second in
        omega (arith, w, f, s, some)

ahead_end : (made tn td d : ℕ) → d ≤ made + 1 → tn ≤ td → tn * d ≤ made * td + td
ahead_end made tn td d few below =
    let a = mul-le-mul_right d below in
    let b = mul-le-mul_left td few in
    omega (arith, a, b)

odd_on : (dims : ℕ) (from : Place) (by : Step3) → IsMove dims from by → (j : ℕ) → j < 3 → IsOdd (on_axis from.0 j)
odd_on dims from by move j l = at_axis (λ k. IsOdd (on_axis from.0 k)) j l move.place_odd

-- the end of a fold is inside where it is on each axis
inside_end : (box : Cuboid) (from : Place) (by : Step3) (f : Fold) → ((j : ℕ) → j < 3 → (on_axis box.low j <ℤ end_on from by f j) × (end_on from by f j <ℤ on_axis box.high j))
    → (species : ℕ) → EndsInside box (ended from by (Goes f species))
inside_end box from by f on species zero l = on 0 l
inside_end box from by f on species (suc zero) l = on 1 l
inside_end box from by f on species (suc (suc zero)) l = on 2 l
inside_end box from by f on species (suc (suc (suc axis))) l = absurd (omega arith)

module _ (dims : ℕ) (plates : List Plate) (among : ℕ → Bool) (box : Cuboid) (from : Place) (by : Step3) (move : IsMove dims from by) (all : All (IsPlate dims) plates) (closed : IsClosed dims plates among box) where
  odd : (j : ℕ) → j < 3 → IsOdd (on_axis from.0 j)
  odd j l = odd_on dims from by move j l

  -- so many ticks are made of each axis after this part of the move
  abbrev HasPassed : (ℕ → ℕ) → ℕ → ℕ → Type 0
  HasPassed c ln ld = (j : ℕ) → j < 3 → 2 * c j * ld ≤ ln * ticks by j + ld

  -- the number of ticks that a part of the move is of
  num_of : (ln ld : ℕ) (high t : Fraction) → 0 < ld → LiesFrom (record { num = pos ln; den = ld }) high t → t.num ≡ pos (unsigned_abs t.num)
  num_of ln ld high t some lies =
      let none : 0 * ld ≡ 0 = omega arith in
      positive t.num (cancel_mul_ℤ (pos 0) t.num ld some (no_less (ln * t.den) (pos 0 *ℤ pos ld) (t.num *ℤ pos ld) (ap pos none) lies.above))
    where
      positive : (z : ℤ) → pos 0 ≤ℤ z → z ≡ pos (unsigned_abs z)
      positive z h = omega (arith, ints, h)

      no_less : (n : ℕ) (x y : ℤ) → x ≡ pos 0 → pos n ≤ℤ y → x ≤ℤ y
      no_less n x y e h = omega (arith, ints, e, h)

  above_num : (ln ld : ℕ) (num : ℤ) (n den : ℕ) → num ≡ pos n → (pos ln *ℤ pos den) ≤ℤ (num *ℤ pos ld) → ln * den ≤ n * ld
  above_num ln ld num n den is h = orders (ln * den) (n * ld) (subst (λ z. (pos ln *ℤ pos den) ≤ℤ (z *ℤ pos ld)) is h)
    where
      orders : (a b : ℕ) → pos a ≤ℤ pos b → a ≤ b
      orders a b h = omega (arith, ints, h)

  below_num : (hn hd : ℕ) (num : ℤ) (n den : ℕ) → num ≡ pos n → (num *ℤ pos hd) ≤ℤ (pos hn *ℤ pos den) → n * hd ≤ hn * den
  below_num hn hd num n den is h = orders (n * hd) (hn * den) (subst (λ z. (z *ℤ pos hd) ≤ℤ (pos hn *ℤ pos den)) is h)
    where
      orders : (a b : ℕ) → pos a ≤ℤ pos b → a ≤ b
      orders a b h = omega (arith, ints, h)

  -- where nothing is left, each count is that of the whole way
  all_made : (c : ℕ → ℕ) → Left from by odd c [] → (j : ℕ) → j < 3 → ticks by j ≡ 2 * c j
  all_made c left j l = ⊎_elim
      (λ (within : 2 * c j + 1 < ticks by j). absurd (left.all (moment_of by j (2 * c j + 1)) (at_odd from by odd j (c j) l within) (omega arith)))
      (λ (beyond : ticks by j ≤ 2 * c j + 1). let e = at_axis (λ k. IsEven (on_axis by.0 k)) j l move.step_even in omega (arith, beyond, left.made j l, e))
      (cases_lt (2 * c j + 1) (ticks by j))

  den_above : (m : Moment) → IsMoment from by m → 0 < m.den
  den_above m is = omega (arith, is.begun, is.unfinished)

  passed_rest : (c : ℕ → ℕ) (m : Moment) (ms : List Moment) (left : Left from by odd c (m ∷ ms)) (j : ℕ) → j < 3 → (j ≡ m.axis) ⊎ (j ≡ m.axis → ⊥)
      → 2 * more c m.axis j * m.den ≤ m.num * ticks by j + m.den
  passed_rest c m ms left j l (inl same) =
      let count : c j ≡ c m.axis = ap c same in
      let nums : m.num ≡ 2 * c j + 1 = head_num from by odd c m ms left ∙ ap (λ n. 2 * n + 1) (sym count) in
      let dens : m.den ≡ ticks by j = (m_is from by odd c m ms left).den ∙ ap (ticks by) (sym same) in
      let made : m.num * ticks by j ≡ (2 * c j + 1) * m.den = λ i. nums i * sym dens i in
      rw (eq-eqb j m.axis same) (omega (arith, made))
  passed_rest c m ms left j l (inr other) = rw (ne_eqb j m.axis other) (not_behind from by odd c m ms left j l)

  -- the whole way stays in the region
  in_region : (s : Standing) (c : ℕ → ℕ) (ln ld : ℕ) (ms : List Moment) → 0 < ld → Left from by odd c ms → HasPassed c ln ld → StaysInside among box from by c s
      → StaysInRegion plates box from by (record { num = pos ln; den = ld }) s ms
  in_region (Gone n) c ln ld ms some left passed inside = tt
  in_region (Goes f species) c ln ld [] some left passed inside = λ t lies.
      let is = num_of ln ld (whole (pos 1)) t some lies in
      let above = above_num ln ld t.num (unsigned_abs t.num) t.den is lies.above in
      let below = below_num 1 1 t.num (unsigned_abs t.num) t.den is lies.below in
      in_region_at box from by f c inside.0 t lies.number (unsigned_abs t.num) is
      (λ j l. behind_later (2 * c j) ln ld (unsigned_abs t.num) t.den (ticks by j) some (passed j l) above)
      (λ j l. ahead_end (2 * c j) (unsigned_abs t.num) t.den (ticks by j) (omega (arith, all_made c left j l)) (omega (arith, below)))
  in_region (Goes f species) c ln ld (m ∷ ms) some left passed inside = (
    λ t lies.
        let is = num_of ln ld (part_of m) t some lies in
        let above = above_num ln ld t.num (unsigned_abs t.num) t.den is lies.above in
        let below = below_num m.num m.den t.num (unsigned_abs t.num) t.den is lies.below in
        in_region_at box from by f c inside.0 t lies.number (unsigned_abs t.num) is
        (λ j l. behind_later (2 * c j) ln ld (unsigned_abs t.num) t.den (ticks by j) some (passed j l) above)
        (λ j l. ahead_earlier (2 * c j) m.num m.den (unsigned_abs t.num) t.den (ticks by j) (den_above m (m_is from by odd c m ms left)) (not_ahead from by odd c m ms left j l) below),
    in_region (after_moment plates from by (Goes f species) m) (more c m.axis) m.num m.den ms (den_above m (m_is from by odd c m ms left)) (rest_left from by odd c m ms left)
        (λ j l. passed_rest c m ms left j l (cases_eq j m.axis))
        (stays_inside box from by odd f c m ms left inside.0 dims move plates among all closed species inside.1),
  )

  gone_ends : (n : ℕ) (ms : List Moment) → EndsInside box (ended from by (after_moments plates from by (Gone n) ms))
  unfolding after_moments
  gone_ends n [] = tt
  gone_ends n (m ∷ ms) = gone_ends n ms

  end_is : (f : Fold) (c : ℕ → ℕ) → Left from by odd c [] → Inside box from by f c → (j : ℕ) → j < 3 → end_on from by f j ≡ centre (start_on f from j) (way_on f by j) (c j)
  end_is f c left inside j l =
      end_centre (on_axis f.sign j) (on_axis from.0 j) (on_axis by.0 j) (on_axis f.shift j) (c j)
      (signed_size (on_axis f.sign j) (on_axis by.0 j) (inside.signs j l) ∙ all_made c left j l)

  ends_inside : (s : Standing) (c : ℕ → ℕ) (ms : List Moment) → Left from by odd c ms → StaysInside among box from by c s → EndsInside box (ended from by (after_moments plates from by s ms))
  unfolding after_moments
  ends_inside (Gone n) c ms left inside = gone_ends n ms
  ends_inside (Goes f species) c [] left inside =
      inside_end box from by f (λ j l.
      let is = end_is f c left inside.0 j l in
      let cell = inside.0.cells j l in
      (subst (λ z. on_axis box.low j <ℤ z) (sym is) cell.above, subst (λ z. z <ℤ on_axis box.high j) (sym is) cell.below)) species
  ends_inside (Goes f species) c (m ∷ ms) left inside =
      ends_inside (after_moment plates from by (Goes f species) m) (more c m.axis) ms (rest_left from by odd c m ms left)
      (stays_inside box from by odd f c m ms left inside.0 dims move plates among all closed species inside.1)

  -- a way that starts inside has each true point in the closed region, and ends inside
  starts : Left from by odd (λ _. 0) (moments from by)
  starts = all_left from by odd

  straight_start : (j : ℕ) → j < 3 → (low high : ℤ) → IsCell low high (on_axis from.0 j) → IsCell low high (centre (start_on straight from j) (way_on straight by j) 0)
  straight_start j l low high cell = subst (IsCell low high) (sym (is j l)) cell
    where
      one : (a d : ℤ) → centre (pos 1 *ℤ a +ℤ pos 0) (pos 1 *ℤ d) 0 ≡ a
      one a d = cond_both (int_lt (pos 0) (pos 1 *ℤ d)) ((pos 1 *ℤ a +ℤ pos 0) +ℤ pos 0) ((pos 1 *ℤ a +ℤ pos 0) -ℤ pos 0) (λ z. z ≡ a) (λ e. omega (arith, ints)) (λ e. omega (arith, ints))

      is : (k : ℕ) → k < 3 → centre (start_on straight from k) (way_on straight by k) 0 ≡ on_axis from.0 k
      is zero h = one (on_axis from.0 0) (on_axis by.0 0)
      is (suc zero) h = one (on_axis from.0 1) (on_axis by.0 1)
      is (suc (suc zero)) h = one (on_axis from.0 2) (on_axis by.0 2)
      is (suc (suc (suc k))) h = absurd (omega arith)

  at_start : ((j : ℕ) → j < 3 → IsCell (on_axis box.low j) (on_axis box.high j) (on_axis from.0 j)) → Inside box from by straight (λ _. 0)
  at_start cells =
      record {
        cells = λ j l. straight_start j l _ _ (cells j l);
        signs = signs;
        sign_count = refl;
        shift_count = refl;
      }
    where
      signs : (k : ℕ) → k < 3 → IsSign (on_axis straight.sign k)
      signs zero h = inl refl
      signs (suc zero) h = inl refl
      signs (suc (suc zero)) h = inl refl
      signs (suc (suc (suc k))) h = absurd (omega arith)

  cell_of : (low high x : ℤ) → low <ℤ x → x <ℤ high → unsigned_abs x % 2 ≡ 1 → IsCell low high x
  cell_of low high x above below odd = let h = odd_half x odd in record { above = above; below = below; half = h.0; odd = h.1 }

  pub confined : (species : ℕ) → among species ≡ true → IsInside box from → Confines plates species from by box
  unfolding way_among
  confined species kin start =
      let inside = at_start (λ j l. let at = start j l in cell_of (on_axis box.low j) (on_axis box.high j) (on_axis from.0 j) at.0 at.1 (odd j l)) in
      record {
        region = in_region (Goes straight species) (λ _. 0) 0 1 (moments from by) (omega arith) starts (λ j l. omega arith) (inside, kin);
        end = ends_inside (Goes straight species) (λ _. 0) (moments from by) starts (inside, kin);
      }
