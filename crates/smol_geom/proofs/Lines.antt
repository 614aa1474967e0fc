-- Where a straight line meets a rectangle: only where it passes through the plane, at the part of the way to it.
use Rattle.std.proofs.Common.{⊎_elim, ◌≡◌, ℕ, ◌+◌, ◌-◌, ◌*◌, ◌<◌, ◌≤◌, ◌⊎◌, List, ℤ, pos, negsuc, neg_ℤ, unsigned_abs, ◌+ℤ◌, ◌-ℤ◌, ◌*ℤ◌, ◌≤ℤ◌, ◌<ℤ◌, ◌∙◌, sym, ap, subst, refl, inl, inr, arith}
use Rattle.std.proofs.Math.IntN.{*ℤ_comm}
use Rattle.std.proofs.lemmas.Int.{ints, by_lt_z}
use Rattle.smol_geom.specs.declared.place.Place.{Place}
use Rattle.smol_geom.specs.declared.rect.Rect.{Rect}
use Rattle.smol_geom.specs.Axes.{on_axis, EachAxis, IsEven, IsOdd}
use Rattle.smol_geom.specs.Fraction.{Fraction}
use Rattle.smol_geom.specs.Line.{part_way, move_point, line_point, LineMeets, IsStrictlyBetween}
use Rattle.smol_geom.specs.Part.{scaled_way}
use Rattle.smol_geom.specs.Rect.{IsRect, IsInRange, HoldsPoint, plane_of}
use Rattle.smol_geom.proofs.EachAxis.{at_axis}
use Rattle.smol_geom.proofs.Fractions.{over, same_reach}
use Rattle.smol_geom.proofs.Integers.{sums, mul-add_left, mul-add_right, mul-neg_right, mul_lt_ℤ}
use Rattle.smol_geom.proofs.Ways.{low_products, high_products, same_range}

-- a fraction that isn't below 0 has a natural number over its denominator
natural_num : (z : ℤ) (m : ℕ) → (pos 0 *ℤ pos m) ≤ℤ (z *ℤ pos 1) → (j : ℕ) × (z ≡ pos j)
natural_num (pos j) m positive = (j, refl)
natural_num (negsuc j) m positive = absurd (omega (arith, ints))

-- a point in the plane of the rectangle reaches exactly the plane's coordinate
on_plane : (rect : Rect) (u by : ℤ) (t : Fraction) → IsRect rect → IsInRange rect rect.axis (part_way u by t)
    → plane_of rect *ℤ pos t.den ≡ scaled_way u by t
on_plane rect u by t shape held =
    let from_low = low_products (plane_of rect) u by t held.low in
    let to_high = high_products (on_axis rect.high rect.axis) u by t held.high in
    let same = ap (λ (z : ℤ). z *ℤ pos t.den) shape.flat in
    omega (arith, sums)

-- the way from u to v, weighed by what is left of it and what is made
weighed : (u v : ℤ) (i j : ℕ) → scaled_way u (v -ℤ u) (over j (i + j)) ≡ u *ℤ pos i +ℤ v *ℤ pos j
weighed u v i j =
    let start = mul-add_right u (pos i) (pos j) in
    let spread = mul-add_right (pos j) v (neg_ℤ u) in
    let back = mul-neg_right (pos j) u in
    let order_v = *ℤ_comm (pos j) v in
    let order_u = *ℤ_comm (pos j) u in
    omega (arith, sums)

-- a line with both ends below the plane has no point on it
never_up : (p u v : ℤ) (i j : ℕ) → 0 < i + j → u <ℤ p → v <ℤ p → p *ℤ pos (i + j) ≡ u *ℤ pos i +ℤ v *ℤ pos j → ⊥
never_up p u v i j positive u_below v_below reaches =
    let split = mul-add_right p (pos i) (pos j) in
    let u_gap = mul_lt_ℤ u p i u_below in
    let v_gap = mul_lt_ℤ v p j v_below in
    omega (arith, sums)

-- nor has a line with both ends above it
never_down : (p u v : ℤ) (i j : ℕ) → 0 < i + j → p <ℤ u → p <ℤ v → p *ℤ pos (i + j) ≡ u *ℤ pos i +ℤ v *ℤ pos j → ⊥
never_down p u v i j positive u_above v_above reaches =
    let split = mul-add_right p (pos i) (pos j) in
    let u_gap = mul_lt_ℤ p u i u_above in
    let v_gap = mul_lt_ℤ p v j v_above in
    omega (arith, sums)

-- an even number that isn't above an odd one is below it, and the other way round
apart_above : (p u : ℤ) → IsEven p → IsOdd u → p ≤ℤ u → p <ℤ u
apart_above p u even odd below =
    by_lt_z p u (λ less. less) (λ more. let same : p ≡ u = omega (arith, sums) in let parity = ap (λ z. unsigned_abs z) same in absurd (omega arith))

-- a place on each side of the plane, or both on one side
sides : (p u v : ℤ) → IsEven p → IsOdd u → IsOdd v
    → IsStrictlyBetween p u v ⊎ (((u <ℤ p) × (v <ℤ p)) ⊎ ((p <ℤ u) × (p <ℤ v)))
sides p u v even odd_u odd_v =
    by_lt_z u p
    (λ u_below. by_lt_z v p (λ v_below. inr (inl (u_below, v_below))) (λ v_above. inl (inl (u_below, apart_above p v even odd_v v_above))))
    (λ u_above. by_lt_z v p (λ v_below. inl (inr (v_below, apart_above p u even odd_u u_above)))
    (λ v_above. inr (inr (apart_above p u even odd_u u_above, apart_above p v even odd_v v_above))))

-- from below to above the plane: the part that is made of the way is the gap to the plane over the way
ratio_up : (p u v : ℤ) (j m n d : ℕ) → p ≡ u +ℤ pos n → v -ℤ u ≡ pos d
    → p *ℤ pos m ≡ scaled_way u (v -ℤ u) (over j m) → n * m ≡ j * d
ratio_up p u v j m n d plane way reaches =
    let moved : (u +ℤ pos n) *ℤ pos m ≡ u *ℤ pos m +ℤ pos j *ℤ pos d =
    ap (λ (z : ℤ). z *ℤ pos m) (sym plane) ∙ reaches ∙ ap (λ (z : ℤ). u *ℤ pos m +ℤ pos j *ℤ z) way in
    let spread = mul-add_left u (pos n) (pos m) in
    omega (arith, sums)

-- and from above to below it
ratio_down : (p u v : ℤ) (j m n d : ℕ) → u ≡ p +ℤ pos n → v -ℤ u ≡ neg_ℤ (pos d)
    → p *ℤ pos m ≡ scaled_way u (v -ℤ u) (over j m) → n * m ≡ j * d
ratio_down p u v j m n d start way reaches =
    let moved : p *ℤ pos m ≡ (p +ℤ pos n) *ℤ pos m +ℤ pos j *ℤ neg_ℤ (pos d) =
    reaches ∙ (λ i. start i *ℤ pos m +ℤ pos j *ℤ way i) in
    let spread = mul-add_left p (pos n) (pos m) in
    let back = mul-neg_right (pos j) (pos d) in
    omega (arith, sums)

ratio : (p u v : ℤ) (j m n d : ℕ) → IsStrictlyBetween p u v → n ≡ unsigned_abs (p -ℤ u) → d ≡ unsigned_abs (v -ℤ u)
    → p *ℤ pos m ≡ scaled_way u (v -ℤ u) (over j m) → n * m ≡ j * d
ratio p u v j m n d (inl up) gap way reaches = ratio_up p u v j m n d (omega (arith, ints)) (omega (arith, ints)) reaches
ratio p u v j m n d (inr down) gap way reaches = ratio_down p u v j m n d (omega (arith, ints)) (omega (arith, ints)) reaches

-- the line's point at j / m of it is in the rectangle
record Reaches (rect : Rect) (a b : Place) (j m : ℕ) : Type 0 where
  pub positive : 0 < m
  pub within : j ≤ m
  pub held : HoldsPoint rect (line_point a b (over j m))

-- a line that meets the rectangle does so at a fraction of natural numbers
reached : (rect : Rect) (a b : Place) → LineMeets rect a b → (j : ℕ) × (m : ℕ) × Reaches rect a b j m
reached rect a b met =
    let t = met.0 in
    let num = natural_num t.num t.den met.2 in
    let same : t ≡ over num.0 t.den = λ i. record { num = num.1 i; den = t.den } in (
      num.0,
      t.den,
      record { positive = met.1; within = omega (arith, ints, num.1, met.3); held = subst (λ s. HoldsPoint rect (line_point a b s)) same met.4 },
    )

-- what the line reaches in the rectangle's plane
reached_plane : (rect : Rect) (a b : Place) (j m : ℕ) → IsRect rect → Reaches rect a b j m
    → plane_of rect *ℤ pos m ≡ scaled_way (on_axis a.0 rect.axis) (on_axis b.0 rect.axis -ℤ on_axis a.0 rect.axis) (over j m)
reached_plane rect a b j m shape r =
    on_plane rect (on_axis a.0 rect.axis) (on_axis b.0 rect.axis -ℤ on_axis a.0 rect.axis) (over j m) shape
    (at_axis (λ axis. IsInRange rect axis (line_point a b (over j m) axis)) rect.axis shape.axis r.held)

-- a line that meets the rectangle passes through its plane
pub passes_plane : (rect : Rect) (a b : Place) → IsRect rect → EachAxis (λ axis. IsOdd (on_axis a.0 axis)) → EachAxis (λ axis. IsOdd (on_axis b.0 axis)) → IsEven (plane_of rect)
    → LineMeets rect a b → IsStrictlyBetween (plane_of rect) (on_axis a.0 rect.axis) (on_axis b.0 rect.axis)
passes_plane rect a b shape odd_a odd_b even met =
    let p = plane_of rect in
    let u = on_axis a.0 rect.axis in
    let v = on_axis b.0 rect.axis in
    let all = reached rect a b met in
    let j = all.0 in
    let m = all.1 in
    let r = all.2 in
    let i = m - j in
    let whole_way : m ≡ i + j = omega (arith, r.within) in
    let reaches = reached_plane rect a b j m shape r in
    let weights : p *ℤ pos (i + j) ≡ u *ℤ pos i +ℤ v *ℤ pos j =
    subst (λ k. p *ℤ pos k ≡ scaled_way u (v -ℤ u) (over j k)) whole_way reaches ∙ weighed u v i j in
    let positive : 0 < i + j = omega (arith, r.positive, r.within) in
    let odd_u = at_axis (λ axis. IsOdd (on_axis a.0 axis)) rect.axis shape.axis odd_a in
    let odd_v = at_axis (λ axis. IsOdd (on_axis b.0 axis)) rect.axis shape.axis odd_b in
    ⊎_elim (λ between. between)
    (λ one_side. ⊎_elim (λ below. absurd (never_up p u v i j positive below.0 below.1 weights)) (λ above. absurd (never_down p u v i j positive above.0 above.1 weights)) one_side)
    (sides p u v even odd_u odd_v)

-- a line through the plane that meets the rectangle does so at the part of the way to the plane
pub meets_at_plane : (rect : Rect) (a b : Place) (way : List ℤ) (n d : ℕ) → IsRect rect
    → IsStrictlyBetween (plane_of rect) (on_axis a.0 rect.axis) (on_axis b.0 rect.axis)
    → n ≡ unsigned_abs (plane_of rect -ℤ on_axis a.0 rect.axis) → d ≡ unsigned_abs (on_axis b.0 rect.axis -ℤ on_axis a.0 rect.axis)
    → EachAxis (λ axis. on_axis way axis ≡ on_axis b.0 axis -ℤ on_axis a.0 axis)
    → LineMeets rect a b → HoldsPoint rect (move_point a.0 way (over n d))
meets_at_plane rect a b way n d shape between gap length way_is met =
    let all = reached rect a b met in
    let j = all.0 in
    let m = all.1 in
    let r = all.2 in
    let same = ratio (plane_of rect) (on_axis a.0 rect.axis) (on_axis b.0 rect.axis) j m n d between gap length (reached_plane rect a b j m shape r) in
    let on = λ (axis : ℕ) (is : on_axis way axis ≡ on_axis b.0 axis -ℤ on_axis a.0 axis) (h : IsInRange rect axis (line_point a b (over j m) axis)).
    same_range rect axis _ _ (λ i. part_way (on_axis a.0 axis) (sym is i) (over n d))
    (same_reach rect axis (on_axis a.0 axis) (on_axis b.0 axis -ℤ on_axis a.0 axis) j m n d r.positive same h) in
    (on 0 way_is.0 r.held.0, on 1 way_is.1 r.held.1, on 2 way_is.2 r.held.2)

-- where the part of the way to the plane is in the rectangle, the line meets it
pub meets_there : (rect : Rect) (a b : Place) (way : List ℤ) (n d : ℕ)
    → IsStrictlyBetween (plane_of rect) (on_axis a.0 rect.axis) (on_axis b.0 rect.axis)
    → n ≡ unsigned_abs (plane_of rect -ℤ on_axis a.0 rect.axis) → d ≡ unsigned_abs (on_axis b.0 rect.axis -ℤ on_axis a.0 rect.axis)
    → EachAxis (λ axis. on_axis way axis ≡ on_axis b.0 axis -ℤ on_axis a.0 axis)
    → HoldsPoint rect (move_point a.0 way (over n d)) → LineMeets rect a b
meets_there rect a b way n d between gap length way_is held =
    let sizes = way_sizes (plane_of rect) (on_axis a.0 rect.axis) (on_axis b.0 rect.axis) n d between gap length in
    let on = λ (axis : ℕ) (is : on_axis way axis ≡ on_axis b.0 axis -ℤ on_axis a.0 axis) (h : IsInRange rect axis (move_point a.0 way (over n d) axis)).
    same_range rect axis _ _ (λ i. part_way (on_axis a.0 axis) (is i) (over n d)) h in (
      over n d,
      sizes.0,
      omega (arith, ints),
      omega (arith, ints, sizes.1),
      (on 0 way_is.0 held.0, on 1 way_is.1 held.1, on 2 way_is.2 held.2),
    )
  where
    way_sizes : (p u v : ℤ) (n d : ℕ) → IsStrictlyBetween p u v → n ≡ unsigned_abs (p -ℤ u) → d ≡ unsigned_abs (v -ℤ u) → (0 < d) × (n ≤ d)
    way_sizes p u v n d (inl up) gap length = (omega (arith, ints), omega (arith, ints))
    way_sizes p u v n d (inr down) gap length = (omega (arith, ints), omega (arith, ints))
