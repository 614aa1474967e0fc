-- Where a plate is met, its plane is the true coordinate.
use Rattle.std.proofs.Common.{◌≡◌, ℕ, true, ◌==◌, refl, sym, ◌∙◌, ap, subst, arith, ℤ, pos, ◌+ℤ◌, ◌*ℤ◌, ◌≤ℤ◌}
use Rattle.std.proofs.lemmas.Bool.{and_from, and_parts, eq-eqb, eqb-true}
use Rattle.std.proofs.lemmas.Int.{ints}
use Rattle.smol_geom.specs.declared.place.Place.{Place}
use Rattle.smol_geom.specs.declared.place.Step3.{Step3}
use Rattle.smol_geom.specs.declared.moment.Moment.{Moment}
use Rattle.smol_geom.specs.declared.fold.Fold.{Fold}
use Rattle.smol_geom.specs.Axes.{on_axis}
use Rattle.smol_geom.specs.Fold.{IsSign, true_point}
use Rattle.smol_geom.specs.Fraction.{whole, ◌≤ℚ◌}
use Rattle.smol_geom.specs.Line.{part_way}
use Rattle.smol_geom.specs.Moment.{part_of}
use Rattle.smol_geom.specs.Moments.{IsMoment}
use Rattle.smol_geom.specs.Part.{scaled_way}
use Rattle.smol_geom.specs.Rect.{IsRect, IsInRange, plane_of}
use Rattle.smol_geom.proofs.Cells.{exact_at, signed_size, plane_folded}
use Rattle.smol_geom.proofs.EachAxis.{at_axis}
use Rattle.smol_geom.proofs.Folds.{folded_point}
use Rattle.smol_geom.proofs.Integers.{sums, mul_le_ℤ, cancel_mul_ℤ}
use Rattle.smol_geom.proofs.Ways.{above_low, below_high, low_products, high_products}
use Rattle.smol_meaning.specs.declared.sheet.Sheet.{Sheet}
use Rattle.smol_meaning.specs.declared.sheet.Sheet.TheVariants.{Rectangle, Plane}
use Rattle.smol_meaning.specs.Plates.{is_between, is_in_rect, is_met, plane_at, sheet_axis, sheet_plane}
use Rattle.smol_meaning.proofs.Responses.{holds_is, between_is, between_from}

-- the folded start and the folded way on an axis
abbrev pub start_on : Fold → Place → ℕ → ℤ
start_on f from j = on_axis f.sign j *ℤ on_axis from.0 j +ℤ on_axis f.shift j

abbrev pub way_on : Fold → Step3 → ℕ → ℤ
way_on f by j = on_axis f.sign j *ℤ on_axis by.0 j

-- the ends of a rectangle across its own axis are one
abbrev pub IsFlat : Sheet → Type 0
IsFlat (Rectangle rect) = IsRect rect
IsFlat (Plane axis plane) = Unit {0}

one_plane : (p q : ℤ) → p ≤ℤ q → q ≤ℤ p → q ≡ p
one_plane p q low high = omega (arith, ints)

module _ (from : Place) (by : Step3) (f : Fold) (m : Moment) where
  -- the true coordinate, as the point of the folded move
  pub point_is : (j : ℕ) → part_way (start_on f from j) (way_on f by j) (part_of m) ≡ true_point f from by (part_of m) j
  point_is j = folded_point (on_axis f.sign j) (on_axis from.0 j) (on_axis by.0 j) (on_axis f.shift j) _ _ (part_of m) refl refl

  module _ (sign : IsSign (on_axis f.sign m.axis)) (is : IsMoment from by m) where
    pub exact : scaled_way (start_on f from m.axis) (way_on f by m.axis) (part_of m) ≡ plane_at from by f m *ℤ pos m.den
    exact =
        exact_at (start_on f from m.axis) (way_on f by m.axis) m.num (part_of m) refl (is.den ∙ sym (signed_size (on_axis f.sign m.axis) (on_axis by.0 m.axis) sign))
        ∙ ap (λ z. z *ℤ pos m.den) (sym (plane_folded (on_axis f.sign m.axis) (on_axis from.0 m.axis) (on_axis by.0 m.axis) (on_axis f.shift m.axis) m.num sign (omega (arith, is.begun, is.unfinished, is.den))))

    -- the true coordinate of the moment's axis is the plane of the moment
    pub plane_between : (low high : ℤ) → whole low ≤ℚ true_point f from by (part_of m) m.axis → true_point f from by (part_of m) m.axis ≤ℚ whole high
        → (low ≤ℤ plane_at from by f m) × (plane_at from by f m ≤ℤ high)
    plane_between low high above below =
        let from_low = low_products low (start_on f from m.axis) (way_on f by m.axis) (part_of m) (subst (λ x. whole low ≤ℚ x) (sym (point_is m.axis)) above) in
        let to_high = high_products high (start_on f from m.axis) (way_on f by m.axis) (part_of m) (subst (λ x. x ≤ℚ whole high) (sym (point_is m.axis)) below) in (
          cancel_mul_ℤ low (plane_at from by f m) m.den (omega (arith, is.begun, is.unfinished)) (omega (arith, sums, from_low, exact)),
          cancel_mul_ℤ (plane_at from by f m) high m.den (omega (arith, is.begun, is.unfinished)) (omega (arith, sums, to_high, exact)),
        )

    pub between_plane : (low high : ℤ) → low ≤ℤ plane_at from by f m → plane_at from by f m ≤ℤ high
        → (whole low ≤ℚ true_point f from by (part_of m) m.axis) × (true_point f from by (part_of m) m.axis ≤ℚ whole high)
    between_plane low high above below =
        let from_low = mul_le_ℤ low (plane_at from by f m) m.den above in
        let to_high = mul_le_ℤ (plane_at from by f m) high m.den below in (
          subst (λ x. whole low ≤ℚ x) (point_is m.axis) (above_low low (start_on f from m.axis) (way_on f by m.axis) (part_of m) (omega (arith, sums, from_low, exact))),
          subst (λ x. x ≤ℚ whole high) (point_is m.axis) (below_high high (start_on f from m.axis) (way_on f by m.axis) (part_of m) (omega (arith, sums, to_high, exact))),
        )

    same_plane : (a b : ℤ) → a ≡ b → (a ≤ℤ b) × (b ≤ℤ a)
    same_plane a b e = (omega (arith, ints, e), omega (arith, ints, e))

    -- a wall is met where it lies across the axis of the moment at the plane of the moment
    pub plane_met : (axis : ℕ) (own : ℤ) → axis ≡ m.axis → own ≡ plane_at from by f m → is_met from by f m (Plane axis own) ≡ true
    plane_met axis own axes e =
        and_from (axis == m.axis) (is_between own own (true_point f from by (part_of m) axis)) (eq-eqb axis m.axis axes)
        (subst (λ j. is_between own own (true_point f from by (part_of m) j) ≡ true) (sym axes)
        (let orders = same_plane own (plane_at from by f m) e in
        let ends = between_plane own own orders.0 orders.1 in
        between_from own own (true_point f from by (part_of m) m.axis) ends.0 ends.1))

    pub met_plane : (sheet : Sheet) → IsFlat sheet → is_met from by f m sheet ≡ true
        → (m.axis ≡ sheet_axis sheet) × (plane_at from by f m ≡ sheet_plane sheet)
    met_plane (Rectangle rect) shape met = (axes, is_plane)
      where
        axes : m.axis ≡ rect.axis
        axes = sym (eqb-true rect.axis m.axis (and_parts (rect.axis == m.axis) (is_in_rect rect (true_point f from by (part_of m))) met).0)

        held : IsInRange rect m.axis (true_point f from by (part_of m) m.axis)
        held =
            at_axis (λ j. IsInRange rect j (true_point f from by (part_of m) j)) m.axis is.axis
            (holds_is rect (true_point f from by (part_of m)) (and_parts (rect.axis == m.axis) (is_in_rect rect (true_point f from by (part_of m))) met).1)

        flat : on_axis rect.low m.axis ≡ on_axis rect.high m.axis
        flat = ap (on_axis rect.low) axes ∙ shape.flat ∙ ap (on_axis rect.high) (sym axes)

        is_plane : plane_at from by f m ≡ plane_of rect
        is_plane =
            let ends = plane_between (on_axis rect.low m.axis) (on_axis rect.high m.axis) held.low held.high in
            one_plane (on_axis rect.low m.axis) (plane_at from by f m) ends.0 (subst (λ z. plane_at from by f m ≤ℤ z) (sym flat) ends.1)
            ∙ ap (on_axis rect.low) axes
    met_plane (Plane axis plane) shape met = (axes, one_plane plane (plane_at from by f m) ends.0 ends.1)
      where
        parts : (axis == m.axis ≡ true) × (is_between plane plane (true_point f from by (part_of m) axis) ≡ true)
        parts = and_parts (axis == m.axis) (is_between plane plane (true_point f from by (part_of m) axis)) met

        axes : m.axis ≡ axis
        axes = sym (eqb-true axis m.axis parts.0)

        ends : (plane ≤ℤ plane_at from by f m) × (plane_at from by f m ≤ℤ plane)
        ends =
            let on = between_is plane plane (true_point f from by (part_of m) m.axis) (subst (λ j. is_between plane plane (true_point f from by (part_of m) j) ≡ true) (sym axes) parts.1) in
            plane_between plane plane on.0 on.1
