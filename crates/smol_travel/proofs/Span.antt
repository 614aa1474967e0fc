-- Between which coordinates a move is, and that nothing outside of that is met.
use Rattle.std.proofs.Common.{⊎_elim, ◌≡◌, ℕ, ◌^◌, ◌<◌, ◌≤◌, ◌==◌, ◌↔◌, Bool, true, false, IsTrue, ◌⊎◌, inl, inr, refl, sym, ◌∙◌, ap, subst, arith, ℤ, pos, negsuc, ◌+ℤ◌, ◌-ℤ◌, ◌*ℤ◌, ◌≤ℤ◌, unsigned_abs}
use Rattle.std.proofs.lemmas.Bool.{and_parts, both_ways, lt-ltb}
use Rattle.std.proofs.lemmas.Int.{ints}
use Rattle.smol_geom.specs.declared.cuboid.Cuboid.{Cuboid}
use Rattle.smol_geom.specs.declared.moment.Moment.{Moment}
use Rattle.smol_geom.specs.Axes.{on_axis, EachAxis, IsWithin}
use Rattle.smol_geom.specs.Fold.{IsSign, true_point}
use Rattle.smol_geom.specs.Fraction.{whole, ◌≤ℚ◌}
use Rattle.smol_geom.specs.Line.{part_way}
use Rattle.smol_geom.specs.Moment.{part_of}
use Rattle.smol_geom.specs.Moments.{IsMoment, coordinate_from, coordinate_after, ticks}
use Rattle.smol_geom.proofs.EachAxis.{at_axis}
use Rattle.smol_geom.proofs.Integers.{mul-add_right}
use Rattle.smol_cells.specs.Numbered.{IsFilled}
use Rattle.smol_meaning.specs.declared.sheet.Sheet.{Sheet}
use Rattle.smol_meaning.specs.declared.sheet.Sheet.TheVariants.{Rectangle, Plane}
use Rattle.smol_meaning.specs.Folds.{IsSheet}
use Rattle.smol_meaning.specs.Plates.{is_in_rect, sheet_axis, sheet_plane}
use Rattle.smol_meaning.specs.Way.{end_on}
use Rattle.smol_meaning.proofs.Planes.{point_is}
use Rattle.smol_meaning.proofs.Responses.{holds_is}
use Rattle.smol_sheets.specs.Sheets.{IsReached}
use Rattle.smol_sheets.proofs.Stretches.{high_meets, low_meets}
use Rattle.smol_travel.specs.declared.leg.Leg.{Leg}
use Rattle.smol_travel.specs.Legs.{IsBetween, IsLeg, IsOnAxis, IsSpan, meets, plane_on, start_on}
use Rattle.smol_travel.proofs.Meets.{met_at}

-- ticks strictly within a way lead between its ends
within_way : (start way x : ℤ) (n : ℕ) → 0 < n → n < unsigned_abs way → coordinate_from start way n ≡ x
    → IsBetween start (start +ℤ way) x ⊎ IsBetween (start +ℤ way) start x
within_way start (pos k) x n some less is =
    let up = lt-ltb 0 k (omega arith) in
    let there : start +ℤ pos n ≡ x = rw up at is in
    inl (omega (arith, ints), omega (arith, ints))
within_way start (negsuc k) x n some less is = inr (omega (arith, ints), omega (arith, ints))

-- what is between two stays so under a fold, which may turn them
folded_between : (s a b x shift : ℤ) → IsSign s → IsBetween a b x
    → IsBetween (s *ℤ a +ℤ shift) (s *ℤ b +ℤ shift) (s *ℤ x +ℤ shift) ⊎ IsBetween (s *ℤ b +ℤ shift) (s *ℤ a +ℤ shift) (s *ℤ x +ℤ shift)
folded_between s a b x shift (inl e) h =
    inl (subst (λ z. IsBetween (z *ℤ a +ℤ shift) (z *ℤ b +ℤ shift) (z *ℤ x +ℤ shift)) (sym e) plus)
  where
    plus : IsBetween (pos 1 *ℤ a +ℤ shift) (pos 1 *ℤ b +ℤ shift) (pos 1 *ℤ x +ℤ shift)
    plus = (omega (arith, ints, h.0), omega (arith, ints, h.1))
folded_between s a b x shift (inr e) h =
    inr (subst (λ z. IsBetween (z *ℤ b +ℤ shift) (z *ℤ a +ℤ shift) (z *ℤ x +ℤ shift)) (sym e) minus)
  where
    minus : IsBetween (negsuc 0 *ℤ b +ℤ shift) (negsuc 0 *ℤ a +ℤ shift) (negsuc 0 *ℤ x +ℤ shift)
    minus = (omega (arith, ints, h.1), omega (arith, ints, h.0))

either_way : (a b x : ℤ) → IsBetween a b x ⊎ IsBetween b a x → IsBetween b a x ⊎ IsBetween a b x
either_way a b x (inl h) = inr h
either_way a b x (inr h) = inl h

between_ends : (s start way shift : ℤ) (n : ℕ) → IsSign s → 0 < n → n < unsigned_abs way
    → IsBetween (s *ℤ start +ℤ shift) (s *ℤ (start +ℤ way) +ℤ shift) (s *ℤ coordinate_from start way n +ℤ shift)
    ⊎ IsBetween (s *ℤ (start +ℤ way) +ℤ shift) (s *ℤ start +ℤ shift) (s *ℤ coordinate_from start way n +ℤ shift)
between_ends s start way shift n sign some less = ⊎_elim
    (λ (h : IsBetween start (start +ℤ way) (coordinate_from start way n)). folded_between s start (start +ℤ way) (coordinate_from start way n) shift sign h)
    (λ (h : IsBetween (start +ℤ way) start (coordinate_from start way n)).
    either_way _ _ _ (folded_between s (start +ℤ way) start (coordinate_from start way n) shift sign h))
    (within_way start way (coordinate_from start way n) n some less refl)

in_order : (a b x : ℤ) → a ≤ℤ b → IsBetween a b x ⊎ IsBetween b a x → IsBetween a b x
in_order a b x order (inl h) = h
in_order a b x order (inr h) = absurd (omega (arith, ints, h.0, h.1))

-- the ends that a fold carries a way's ends to, in order
module _ (s start way shift first last : ℤ) (sign : IsSign s) (first_is : first ≡ s *ℤ start +ℤ shift) (last_is : last ≡ s *ℤ (start +ℤ way) +ℤ shift) (n : ℕ) (some : 0 < n) (less : n < unsigned_abs way) where
  ends : IsBetween first last (s *ℤ coordinate_from start way n +ℤ shift) ⊎ IsBetween last first (s *ℤ coordinate_from start way n +ℤ shift)
  ends = rw (first_is, last_is) (between_ends s start way shift n sign some less)

  pub ends_up : first ≤ℤ last → IsBetween first last (s *ℤ coordinate_from start way n +ℤ shift)
  ends_up order = in_order _ _ _ order ends

  pub ends_down : last ≤ℤ first → IsBetween last first (s *ℤ coordinate_from start way n +ℤ shift)
  ends_down order = in_order _ _ _ order (either_way _ _ _ ends)

-- on an axis, all that ticks strictly within the move lead to is between the two
abbrev pub SpansOn : Leg → Cuboid → ℕ → Type 0
SpansOn leg c axis =
    (n : ℕ) → 0 < n → n < ticks leg.by axis
    → IsBetween (on_axis c.low axis) (on_axis c.high axis) (on_axis leg.fold.sign axis *ℤ coordinate_after leg.from leg.by axis n +ℤ on_axis leg.fold.shift axis)

pub spans_all : (leg : Leg) (c : Cuboid) → EachAxis (SpansOn leg c) → (m : Moment) → IsMoment leg.from leg.by m
    → IsBetween (on_axis c.low m.axis) (on_axis c.high m.axis) (plane_on leg m)
spans_all leg c each m is =
    at_axis (SpansOn leg c) m.axis is.axis each m.num is.begun (omega (arith, is.unfinished, is.den))

-- a sheet whose plane is outside the span is never met
pub never_met : (leg : Leg) (c : Cuboid) (sheet : Sheet) (axis : ℕ) (plane : ℤ) (t : Bool) → IsSheet sheet → IsLeg leg → IsSpan leg c
    → axis ≡ sheet_axis sheet → plane ≡ sheet_plane sheet → (IsTrue t ↔ IsBetween (on_axis c.low axis) (on_axis c.high axis) plane) → t ≡ false
    → (m : Moment) → IsMoment leg.from leg.by m → meets leg m sheet ≡ true → ⊥
never_met leg c sheet axis plane t fits is_leg span across there says out m is met =
    let at = met_at leg is_leg m is sheet fits met in
    let within = subst (λ k. IsBetween (on_axis c.low k) (on_axis c.high k) (plane_on leg m)) (at.0 ∙ sym across) (span.between m is) in
    both_ways t out (says.1 (subst (λ z. IsBetween (on_axis c.low axis) (on_axis c.high axis) z) (at.1 ∙ sym there) within))

le_trans : (a b c : ℤ) → a ≤ℤ b → b ≤ℤ c → a ≤ℤ c
le_trans a b c ab bc = omega (arith, ints)

-- the folded way leads from the folded start to the folded end
ends_apart : (s a w h : ℤ) → (s *ℤ (a +ℤ w) +ℤ h) -ℤ (s *ℤ a +ℤ h) ≡ s *ℤ w
ends_apart s a w h = let spread = mul-add_right s a w in omega (arith, ints, spread)

-- on an axis, a range that has the true coordinate at a moment meets the span
module _ (leg : Leg) (c : Cuboid) (span : IsSpan leg c) (m : Moment) (is : IsMoment leg.from leg.by m) where
  some : 0 < m.den
  some = omega (arith, is.begun, is.unfinished)

  within : m.num ≤ m.den
  within = omega (arith, is.unfinished)

  point : (j : ℕ) → true_point leg.fold leg.from leg.by (part_of m) j
      ≡ part_way (start_on leg j) (end_on leg.from leg.by leg.fold j -ℤ start_on leg j) (part_of m)
  point j =
      sym (point_is leg.from leg.by leg.fold m j)
      ∙ ap (λ z. part_way (start_on leg j) z (part_of m)) (sym (ends_apart (on_axis leg.fold.sign j) (on_axis leg.from.0 j) (on_axis leg.by.0 j) (on_axis leg.fold.shift j)))

  range_meets : (j : ℕ) (low high : ℤ) → IsOnAxis c j (start_on leg j) → IsOnAxis c j (end_on leg.from leg.by leg.fold j)
      → whole low ≤ℚ true_point leg.fold leg.from leg.by (part_of m) j → true_point leg.fold leg.from leg.by (part_of m) j ≤ℚ whole high
      → (low ≤ℤ on_axis c.high j) × (on_axis c.low j ≤ℤ high)
  range_meets j low high start end above below = (
    low_meets (part_of m) some m.num refl within (start_on leg j) (end_on leg.from leg.by leg.fold j) low (on_axis c.high j)
        (subst (λ x. whole low ≤ℚ x) (point j) above) start.1 end.1,
    high_meets (part_of m) some m.num refl within (start_on leg j) (end_on leg.from leg.by leg.fold j) high (on_axis c.low j)
        (subst (λ x. x ≤ℚ whole high) (point j) below) start.0 end.0,
  )

  -- a sheet that is met at a moment is reached by the span
  pub span_reaches : (sheet : Sheet) → meets leg m sheet ≡ true → IsReached c sheet
  span_reaches (Plane axis plane) met = tt
  span_reaches (Rectangle rect) met =
      let held = holds_is rect (true_point leg.fold leg.from leg.by (part_of m)) (and_parts (rect.axis == m.axis) (is_in_rect rect (true_point leg.fold leg.from leg.by (part_of m))) met).1 in (
        range_meets 0 (on_axis rect.low 0) (on_axis rect.high 0) span.start.0 span.end.0 held.0.low held.0.high,
        range_meets 1 (on_axis rect.low 1) (on_axis rect.high 1) span.start.1 span.end.1 held.1.low held.1.high,
        range_meets 2 (on_axis rect.low 2) (on_axis rect.high 2) span.start.2 span.end.2 held.2.low held.2.high,
      )

-- the span has points
pub span_filled : (leg : Leg) (c : Cuboid) → IsSpan leg c → IsFilled c
span_filled leg c span =
    (le_trans _ (start_on leg 0) _ span.start.0.0 span.start.0.1, le_trans _ (start_on leg 1) _ span.start.1.0 span.start.1.1, le_trans _ (start_on leg 2) _ span.start.2.0 span.start.2.1)

-- it isn't far out
pub span_small : (leg : Leg) (c : Cuboid) → IsSpan leg c → IsWithin (2 ^ 60) c.low × IsWithin (2 ^ 60) c.high
span_small leg c span = (
  (omega (arith, span.low.0), omega (arith, span.low.1), omega (arith, span.low.2)),
  (omega (arith, span.high.0), omega (arith, span.high.1), omega (arith, span.high.2)),
)
