-- The test of a straight line on a sheet says whether the line meets it.
use Rattle.std.proofs.Common.{⊎_elim, ◌≡◌, ℕ, inl, inr, true, ◌&&◌, List, [], ◌∷◌, refl, sym, ◌∙◌, ap, arith, ℤ, pos, neg_ℤ, ◌+ℤ◌, ◌-ℤ◌, ◌*ℤ◌, ◌≤ℤ◌, ◌<ℤ◌, ◌^◌, unsigned_abs}
use Rattle.std.specs.Prelude.{int_le, int_lt}
use Rattle.std.proofs.lemmas.Bool.{cases_Bool, and_from, and_parts, or_cases, or_left, or_right}
use Rattle.std.proofs.lemmas.Int.{ints}
use borrow.Author.Differences.{le-true, le-false, lt-true, lt-false}
use Rattle.smol_geom.specs.declared.place.Place.{Place}
use Rattle.smol_geom.specs.declared.rect.Rect.{Rect}
use Rattle.smol_geom.specs.Axes.{on_axis, EachAxis, IsEven, IsOdd}
use Rattle.smol_geom.specs.Fraction.{Fraction, whole, ◌≤ℚ◌}
use Rattle.smol_geom.specs.Line.{part_way, line_point, LineMeets, IsStrictlyBetween}
use Rattle.smol_geom.specs.Part.{scaled_way}
use Rattle.smol_geom.specs.Rect.{IsRect, HoldsPoint, plane_of}
use Rattle.smol_geom.proofs.Integers.{sums, mul-add_left, mul-neg_right}
use Rattle.smol_geom.proofs.Lines.{passes_plane, meets_at_plane, meets_there}
use Rattle.smol_geom.proofs.Fractions.{over}
use Rattle.smol_geom.proofs.Ways.{above_low, below_high}
use Rattle.smol_meaning.specs.declared.sheet.Sheet.TheVariants.{Rectangle, Plane}
use Rattle.smol_meaning.specs.Plates.{is_between, is_in_rect}
use Rattle.smol_meaning.specs.Sight.{is_strictly_between, line_meets, part_at}
use Rattle.smol_meaning.specs.Sighted.{IsInSight, IsPlaceWithin}
use Rattle.std.specs.Bool.{Decides}

below_from : (a b : ℤ) → a <ℤ b → int_lt a b ≡ true
below_from a b h = ⊎_elim (λ e. e) (λ e. let no = lt-false a b e in absurd (omega (arith, ints))) (cases_Bool (int_lt a b))

below_is : (a b : ℤ) → int_lt a b ≡ true → a <ℤ b
below_is a b e = let yes = lt-true a b e in omega (arith, ints)

-- the test says whether a number lies strictly between two others
pub strictly_between_from : (x a b : ℤ) → IsStrictlyBetween x a b → is_strictly_between x a b ≡ true
strictly_between_from x a b (inl up) = or_left _ _ (and_from _ _ (below_from a x up.0) (below_from x b up.1))
strictly_between_from x a b (inr down) = or_right _ _ (and_from _ _ (below_from b x down.0) (below_from x a down.1))

pub strictly_between_is : (x a b : ℤ) → is_strictly_between x a b ≡ true → IsStrictlyBetween x a b
strictly_between_is x a b e =
    ⊎_elim
    (λ up. let parts = and_parts _ _ up in inl (below_is a x parts.0, below_is x b parts.1))
    (λ down. let parts = and_parts _ _ down in inr (below_is b x parts.0, below_is x a parts.1))
    (or_cases (int_lt a x && int_lt x b) (int_lt b x && int_lt x a) e)

at_most_from : (a b : ℤ) → a ≤ℤ b → int_le a b ≡ true
at_most_from a b h = ⊎_elim (λ e. e) (λ e. let no = le-false a b e in absurd (omega (arith, ints))) (cases_Bool (int_le a b))

at_most_is : (a b : ℤ) → int_le a b ≡ true → a ≤ℤ b
at_most_is a b e = let yes = le-true a b e in omega (arith, ints)

between_from : (low high : ℤ) (x : Fraction) → whole low ≤ℚ x → x ≤ℚ whole high → is_between low high x ≡ true
between_from low high x l h = and_from _ _ (at_most_from _ _ l) (at_most_from _ _ h)

between_is : (low high : ℤ) (x : Fraction) → is_between low high x ≡ true → (whole low ≤ℚ x) × (x ≤ℚ whole high)
between_is low high x e = let p = and_parts _ _ e in (at_most_is _ _ p.0, at_most_is _ _ p.1)

-- the test says whether the rectangle holds the point
holds_from : (rect : Rect) (point : ℕ → Fraction) → HoldsPoint rect point → is_in_rect rect point ≡ true
holds_from rect point h =
    and_from _ _ (between_from _ _ (point 0) h.0.low h.0.high)
    (and_from _ _ (between_from _ _ (point 1) h.1.low h.1.high) (between_from _ _ (point 2) h.2.low h.2.high))

holds_is : (rect : Rect) (point : ℕ → Fraction) → is_in_rect rect point ≡ true → HoldsPoint rect point
holds_is rect point e =
    let p = and_parts _ _ e in
    let q = and_parts _ _ p.1 in
    let x = between_is _ _ (point 0) p.0 in
    let y = between_is _ _ (point 1) q.0 in
    let z = between_is _ _ (point 2) q.1 in
    (record { low = x.0; high = x.1 }, record { low = y.0; high = y.1 }, record { low = z.0; high = z.1 })

-- how far the line leads on each axis
abbrev way_of : Place → Place → List ℤ
way_of a b = (on_axis b.0 0 -ℤ on_axis a.0 0) ∷ (on_axis b.0 1 -ℤ on_axis a.0 1) ∷ (on_axis b.0 2 -ℤ on_axis a.0 2) ∷ []

-- the line meets the rectangle exactly where the test says so
pub meets_from : (rect : Rect) (a b : Place) → IsRect rect → EachAxis (λ axis. IsOdd (on_axis a.0 axis)) → EachAxis (λ axis. IsOdd (on_axis b.0 axis))
    → IsEven (plane_of rect) → LineMeets rect a b → line_meets (Rectangle rect) a b ≡ true
unfolding line_meets
meets_from rect a b shape odd_a odd_b even met =
    let between = passes_plane rect a b shape odd_a odd_b even met in
    let held = meets_at_plane rect a b (way_of a b) _ _ shape between refl refl (refl, refl, refl) met in
    and_from _ _ (strictly_between_from _ _ _ between) (holds_from rect (line_point a b (part_at (plane_of rect) (on_axis a.0 rect.axis) (on_axis b.0 rect.axis))) held)

pub meets_is : (rect : Rect) (a b : Place) → line_meets (Rectangle rect) a b ≡ true → LineMeets rect a b
unfolding line_meets
meets_is rect a b e =
    let parts = and_parts _ _ e in
    let between = strictly_between_is (plane_of rect) (on_axis a.0 rect.axis) (on_axis b.0 rect.axis) parts.0 in
    meets_there rect a b (way_of a b) _ _ between refl refl (refl, refl, refl)
    (holds_is rect (line_point a b (part_at (plane_of rect) (on_axis a.0 rect.axis) (on_axis b.0 rect.axis))) parts.1)

-- on its way up or down a line is exactly on the plane after the part of the way to it
exact_up : (p u v : ℤ) (n d : ℕ) → p ≡ u +ℤ pos n → v -ℤ u ≡ pos d → p *ℤ pos d ≡ scaled_way u (v -ℤ u) (over n d)
exact_up p u v n d plane way =
    ap (λ (z : ℤ). z *ℤ pos d) plane ∙ mul-add_left u (pos n) (pos d) ∙ ap (λ (z : ℤ). u *ℤ pos d +ℤ pos n *ℤ z) (sym way)

exact_down : (p u v : ℤ) (n d : ℕ) → u ≡ p +ℤ pos n → v -ℤ u ≡ neg_ℤ (pos d) → p *ℤ pos d ≡ scaled_way u (v -ℤ u) (over n d)
exact_down p u v n d start way =
    let moved : scaled_way u (v -ℤ u) (over n d) ≡ (p +ℤ pos n) *ℤ pos d +ℤ pos n *ℤ neg_ℤ (pos d) = λ i. start i *ℤ pos d +ℤ pos n *ℤ way i in
    let spread = mul-add_left p (pos n) (pos d) in
    let back = mul-neg_right (pos n) (pos d) in
    omega (arith, sums)

exact : (p u v : ℤ) (n d : ℕ) → n ≡ unsigned_abs (p -ℤ u) → d ≡ unsigned_abs (v -ℤ u) → IsStrictlyBetween p u v
    → p *ℤ pos d ≡ scaled_way u (v -ℤ u) (over n d)
exact p u v n d gap length (inl up) = exact_up p u v n d (omega (arith, ints)) (omega (arith, ints))
exact p u v n d gap length (inr down) = exact_down p u v n d (omega (arith, ints)) (omega (arith, ints))

on_wall : (p u v : ℤ) → IsStrictlyBetween p u v → is_between p p (part_way u (v -ℤ u) (part_at p u v)) ≡ true
on_wall p u v between =
    let is = exact p u v _ _ refl refl between in
    between_from p p (part_way u (v -ℤ u) (part_at p u v))
    (above_low p u (v -ℤ u) (part_at p u v) (omega (arith, sums, is)))
    (below_high p u (v -ℤ u) (part_at p u v) (omega (arith, sums, is)))

-- the line meets a wall exactly where the wall's plane lies strictly between its ends
pub meets_wall_from : (axis : ℕ) (plane : ℤ) (a b : Place) → IsStrictlyBetween plane (on_axis a.0 axis) (on_axis b.0 axis)
    → line_meets (Plane axis plane) a b ≡ true
unfolding line_meets
meets_wall_from axis plane a b between =
    and_from _ _ (strictly_between_from _ _ _ between) (on_wall plane (on_axis a.0 axis) (on_axis b.0 axis) between)

pub meets_wall_is : (axis : ℕ) (plane : ℤ) (a b : Place) → line_meets (Plane axis plane) a b ≡ true
    → IsStrictlyBetween plane (on_axis a.0 axis) (on_axis b.0 axis)
unfolding line_meets
meets_wall_is axis plane a b e = strictly_between_is plane (on_axis a.0 axis) (on_axis b.0 axis) (and_parts _ _ e).0

-- the test on a rectangle in sight decides whether some point of the line is in it
pub meets_decides : (rect : Rect) (a b : Place) → IsInSight rect → IsPlaceWithin (2 ^ 58) a → IsPlaceWithin (2 ^ 58) b
    → Decides (line_meets (Rectangle rect) a b) (LineMeets rect a b)
meets_decides rect a b sight from to = (meets_is rect a b, meets_from rect a b sight.shape from.odd to.odd sight.even)

-- and that on a plane whether it lies strictly between the line's ends
pub meets_wall_decides : (axis : ℕ) (plane : ℤ) (a b : Place)
    → Decides (line_meets (Plane axis plane) a b) (IsStrictlyBetween plane (on_axis a.0 axis) (on_axis b.0 axis))
meets_wall_decides axis plane a b = (meets_wall_is axis plane a b, meets_wall_from axis plane a b)

pub strictly_between_decides : (x a b : ℤ) → Decides (is_strictly_between x a b) (IsStrictlyBetween x a b)
strictly_between_decides x a b = (strictly_between_is x a b, strictly_between_from x a b)
