-- A straight line is in each cuboid that has its ends.
use Rattle.std.proofs.Common.{◌≡◌, ℕ, ◌-◌, ◌<◌, ◌≤◌, ◌∙◌, true, ap, arith, sym, subst, ℤ, pos, ◌+ℤ◌, ◌-ℤ◌, ◌*ℤ◌, ◌≤ℤ◌, unsigned_abs}
use Rattle.std.proofs.Math.IntN.{*ℤ_comm}
use Rattle.std.proofs.lemmas.Int.{ints}
use Rattle.smol_geom.specs.declared.cuboid.Cuboid.{Cuboid}
use Rattle.smol_geom.specs.declared.place.Place.{Place}
use Rattle.smol_geom.specs.Axes.{on_axis}
use Rattle.smol_geom.specs.Fraction.{Fraction, whole, ◌≤ℚ◌}
use Rattle.smol_geom.specs.Line.{part_way}
use Rattle.smol_geom.proofs.Integers.{sums, cancel_mul_ℤ, mul-add_left, mul-add_right, mul_le_ℤ}
use Rattle.smol_geom.proofs.Ways.{high_products, low_products}
use Rattle.smol_meaning.specs.declared.sheet.Sheet.{Sheet}
use Rattle.smol_meaning.specs.declared.sheet.Sheet.TheVariants.{Rectangle, Plane}
use Rattle.smol_meaning.specs.Sight.{line_meets}
use Rattle.smol_meaning.proofs.Sights.{meets_is}
use Rattle.smol_sheets.specs.Sheets.{HasBoth, IsReached}

module _ (start by : ℤ) (n d : ℕ) (within : n ≤ d) where
  whole_is : pos d ≡ pos n +ℤ pos (d - n)
  whole_is = omega (arith, ints, within)

  start_parts : start *ℤ pos d ≡ start *ℤ pos n +ℤ start *ℤ pos (d - n)
  start_parts = ap (λ z. start *ℤ z) whole_is ∙ mul-add_right start (pos n) (pos (d - n))

  -- what isn't above a number at both ends isn't above it between them
  parts_below : (top : ℤ) → start ≤ℤ top → (start +ℤ by) ≤ℤ top → (start *ℤ pos d +ℤ pos n *ℤ by) ≤ℤ (top *ℤ pos d)
  parts_below top first last =
      let one = mul_le_ℤ (start +ℤ by) top n last in
      let two = mul_le_ℤ start top (d - n) first in
      let spread = mul-add_left start by (pos n) in
      let swap = *ℤ_comm by (pos n) in
      let starts = start_parts in
      let tops : top *ℤ pos d ≡ top *ℤ pos n +ℤ top *ℤ pos (d - n) = ap (λ z. top *ℤ z) whole_is ∙ mul-add_right top (pos n) (pos (d - n)) in
      omega (arith, sums, one, two, spread, swap, starts, tops)

  parts_above : (bottom : ℤ) → bottom ≤ℤ start → bottom ≤ℤ (start +ℤ by) → (bottom *ℤ pos d) ≤ℤ (start *ℤ pos d +ℤ pos n *ℤ by)
  parts_above bottom first last =
      let one = mul_le_ℤ bottom (start +ℤ by) n last in
      let two = mul_le_ℤ bottom start (d - n) first in
      let spread = mul-add_left start by (pos n) in
      let swap = *ℤ_comm by (pos n) in
      let starts = start_parts in
      let bottoms : bottom *ℤ pos d ≡ bottom *ℤ pos n +ℤ bottom *ℤ pos (d - n) = ap (λ z. bottom *ℤ z) whole_is ∙ mul-add_right bottom (pos n) (pos (d - n)) in
      omega (arith, sums, one, two, spread, swap, starts, bottoms)

le_trans : (a b c : ℤ) → a ≤ℤ b → b ≤ℤ c → a ≤ℤ c
le_trans a b c ab bc = omega (arith, ints)

-- on an axis, a range that has a coordinate between two ends meets what has both ends
module _ (t : Fraction) (some : 0 < t.den) (n : ℕ) (num : t.num ≡ pos n) (within : n ≤ t.den) (a b : ℤ) where
  scaled : a *ℤ pos t.den +ℤ t.num *ℤ (b -ℤ a) ≡ a *ℤ pos t.den +ℤ pos n *ℤ (b -ℤ a)
  scaled = ap (λ z. a *ℤ pos t.den +ℤ z *ℤ (b -ℤ a)) num

  end_is : a +ℤ (b -ℤ a) ≡ b
  end_is = omega (arith, ints)

  pub low_meets : (low top : ℤ) → whole low ≤ℚ part_way a (b -ℤ a) t → a ≤ℤ top → b ≤ℤ top → low ≤ℤ top
  low_meets low top h first last =
      cancel_mul_ℤ low top t.den some
      (le_trans _ _ _ (subst (λ z. (low *ℤ pos t.den) ≤ℤ z) scaled (low_products low a (b -ℤ a) t h))
      (parts_below a (b -ℤ a) n t.den within top first (subst (λ z. z ≤ℤ top) (sym end_is) last)))

  pub high_meets : (high bottom : ℤ) → part_way a (b -ℤ a) t ≤ℚ whole high → bottom ≤ℤ a → bottom ≤ℤ b → bottom ≤ℤ high
  high_meets high bottom h first last =
      cancel_mul_ℤ bottom high t.den some
      (le_trans _ _ _ (parts_above a (b -ℤ a) n t.den within bottom first (subst (λ z. bottom ≤ℤ z) (sym end_is) last))
      (subst (λ z. z ≤ℤ (high *ℤ pos t.den)) scaled (high_products high a (b -ℤ a) t h)))

-- a sheet that the line meets is reached by each cuboid that has the line's ends
pub line_reached : (c : Cuboid) (a b : Place) (sheet : Sheet) → HasBoth c a b → line_meets sheet a b ≡ true → IsReached c sheet
line_reached c a b (Plane axis plane) both met = tt
line_reached c a b (Rectangle rect) both met =
    let line = meets_is rect a b met in
    let t = line.0 in
    let held = line.4 in
    let n = unsigned_abs t.num in
    let num : t.num ≡ pos n = omega (arith, ints, line.2) in
    let within : n ≤ t.den = omega (arith, ints, line.2, line.3) in (
      (
        low_meets t line.1 n num within (on_axis a.0 0) (on_axis b.0 0) (on_axis rect.low 0) (on_axis c.high 0) held.0.low both.0.0.1 both.0.1.1,
        high_meets t line.1 n num within (on_axis a.0 0) (on_axis b.0 0) (on_axis rect.high 0) (on_axis c.low 0) held.0.high both.0.0.0 both.0.1.0,
      ),
      (
        low_meets t line.1 n num within (on_axis a.0 1) (on_axis b.0 1) (on_axis rect.low 1) (on_axis c.high 1) held.1.low both.1.0.1 both.1.1.1,
        high_meets t line.1 n num within (on_axis a.0 1) (on_axis b.0 1) (on_axis rect.high 1) (on_axis c.low 1) held.1.high both.1.0.0 both.1.1.0,
      ),
      (
        low_meets t line.1 n num within (on_axis a.0 2) (on_axis b.0 2) (on_axis rect.low 2) (on_axis c.high 2) held.2.low both.2.0.1 both.2.1.1,
        high_meets t line.1 n num within (on_axis a.0 2) (on_axis b.0 2) (on_axis rect.high 2) (on_axis c.low 2) held.2.high both.2.0.0 both.2.1.0,
      ),
    )
