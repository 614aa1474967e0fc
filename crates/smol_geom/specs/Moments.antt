-- The moments of a move: where a coordinate is an even whole number strictly between the move's two ends.
use Rattle.std.specs.Prelude.{ℕ, zero, suc, ◌≡◌, ◌<◌, ◌*◌, ◌%◌, ◌⊎◌, Bool, true, ◌&&◌, ◌||◌, ◌==◌, nat_lt, List, [], ◌∷◌, ℤ, pos, ◌+ℤ◌, ◌-ℤ◌, int_lt, unsigned_abs, cond, filter, Contains, count_by}
use Rattle.smol_geom.specs.declared.place.Place.{Place}
use Rattle.smol_geom.specs.declared.place.Step3.{Step3}
use Rattle.smol_geom.specs.declared.moment.Moment.{Moment}
use Rattle.smol_geom.specs.Axes.{on_axis}
use Rattle.smol_geom.specs.Fraction.{Fraction, IsNumber, whole, ◌<ℚ◌, ◌≈ℚ◌}
use Rattle.smol_geom.specs.Line.{move_point}
use Rattle.smol_geom.specs.Moment.{part_of}

-- how many ticks the move goes on an axis, up or down
abbrev pub ticks : Step3 → ℕ → ℕ
ticks by axis = unsigned_abs (on_axis by.0 axis)

-- the coordinate that some ticks lead to from a start, in the direction of a way
abbrev pub coordinate_from : ℤ → ℤ → ℕ → ℤ
coordinate_from start way n = cond (int_lt (pos 0) way) (start +ℤ pos n) (start -ℤ pos n)

-- the coordinate on an axis after some of the move's ticks there
abbrev pub coordinate_after : Place → Step3 → ℕ → ℕ → ℤ
coordinate_after from by axis n = coordinate_from (on_axis from.0 axis) (on_axis by.0 axis) n

-- whether the number is even
abbrev pub is_even : ℤ → Bool
is_even z = unsigned_abs z % 2 == 0

-- the moment at which some of the ticks of an axis are made: n of its d ticks are the part n / d of the move
abbrev pub moment_of : Step3 → ℕ → ℕ → Moment
moment_of by axis n = record { num = n; den = ticks by axis; axis = axis }

-- whether after some of its ticks, none of them the first or the last, the coordinate of an axis is even
abbrev pub is_even_at : Place → Step3 → ℕ → ℕ → Bool
is_even_at from by axis n = (nat_lt 0 n && nat_lt n (ticks by axis)) && is_even (coordinate_after from by axis n)

-- whether the first moment comes before the second: by the part of the move, and at one part by the axis
abbrev pub is_before : Moment → Moment → Bool
is_before a b =
    nat_lt (a.num * b.den) (b.num * a.den) || ((a.num * b.den == b.num * a.den) && nat_lt a.axis b.axis)

-- the list with a moment put into its order
unfoldable pub with_moment : Moment → List Moment → List Moment
with_moment m [] = m ∷ []
with_moment m (n ∷ ms) = cond (is_before m n) (m ∷ n ∷ ms) (n ∷ with_moment m ms)

-- the list with the moments of an axis below some number of its ticks put into their order
unfoldable pub with_row : Place → Step3 → ℕ → ℕ → List Moment → List Moment
with_row from by axis zero ms = ms
with_row from by axis (suc n) ms =
    with_row from by axis n (cond (is_even_at from by axis n) (with_moment (moment_of by axis n) ms) ms)

-- all moments of a move, in their order
unfoldable pub moments : Place → Step3 → List Moment
moments from by =
    with_row from by 0 (ticks by 0) (with_row from by 1 (ticks by 1) (with_row from by 2 (ticks by 2) []))

-- those of the moments that come after one
abbrev pub moments_after : Moment → List Moment → List Moment
moments_after m ms = filter (is_before m) ms

-- before all moments: nothing of the move is made
abbrev pub beginning : Moment
beginning = record { num = 0; den = 1; axis = 0 }

-- the element is one of the list's. This is `Contains` by recursion on the list
abbrev pub Has : {X : Type 0} → List X → X → Type 0
Has [] x = ⊥
Has (y ∷ ys) x = (y ≡ x) ⊎ Has ys x

-- each moment of the list comes before all that follow it
abbrev pub IsInOrder : List Moment → Type 0
IsInOrder [] = Unit {0}
IsInOrder (m ∷ ms) = ((n : Moment) → Has ms n → is_before m n ≡ true) × IsInOrder ms

-- some ticks of the moment's axis are made, not yet all of them, and the coordinate there is even
pub record IsMoment (from : Place) (by : Step3) (m : Moment) : Type 0 where
  pub axis : m.axis < 3
  pub den : m.den ≡ ticks by m.axis
  pub begun : 0 < m.num
  pub unfinished : m.num < m.den
  pub even : is_even (coordinate_after from by m.axis m.num) ≡ true

-- strictly within the move, at the fraction t of it, the coordinate on an axis is an even whole number
pub record IsEvenAt (from : Place) (by : Step3) (axis : ℕ) (t : Fraction) : Type 0 where
  pub number : IsNumber t
  pub begun : whole (pos 0) <ℚ t
  pub unfinished : t <ℚ whole (pos 1)
  pub half : ℤ
  pub even : move_point from.0 by.0 t axis ≈ℚ whole (half +ℤ half)

-- the list has each part of the move at which a coordinate is even, and nothing else, in order; and of an axis it has half as
-- many as the move goes ticks there
pub record AreAllMoments (from : Place) (by : Step3) : Type 0 where
  pub in_order : IsInOrder (moments from by)
  pub even : (m : Moment) → Contains (moments from by) m → (m.axis < 3) × IsEvenAt from by m.axis (part_of m)
  pub complete : (axis : ℕ) (t : Fraction) → axis < 3 → IsEvenAt from by axis t
      → (m : Moment) × Contains (moments from by) m × (m.axis ≡ axis) × (part_of m ≈ℚ t)
  pub count : (axis : ℕ) → axis < 3 → 2 * count_by (λ (m : Moment). m.axis == axis) (moments from by) ≡ ticks by axis
