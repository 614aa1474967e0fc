-- The moments of a move from an odd place by an even displacement are all the parts of it at which a coordinate is even.
use Rattle.std.proofs.Common.{⊎_elim, ◌≡◌, ℕ, zero, suc, ◌+◌, ◌*◌, ◌/◌, ◌%◌, ◌<◌, ◌≤◌, Bool, true, false, ◌==◌, ◌⊎◌, inl, inr, List, [], ◌∷◌, cond, refl, sym, ◌∙◌, ap, subst, arith, ℤ, pos, negsuc, neg_ℤ, ◌+ℤ◌, ◌-ℤ◌, ◌*ℤ◌, ◌<ℤ◌, int_lt, unsigned_abs}
use Rattle.std.specs.Prelude.{count_by, Contains}
use Rattle.std.proofs.lemmas.Bool.{cases_Bool, cases_eq, cases_lt, cond_both, and_from, and_parts, lt-ltb, ltb-true, eq-eqb, eqb-true, ne_eqb, false_from_ne_true}
use Rattle.std.proofs.lemmas.Int.{ints}
use Rattle.std.proofs.lemmas.List.Sums.{sum_by-cons}
use Rattle.std.proofs.Math.Nat.{mul-le-mul_right}
use Rattle.smol_geom.specs.declared.place.Place.{Place}
use Rattle.smol_geom.specs.declared.place.Step3.{Step3}
use Rattle.smol_geom.specs.declared.moment.Moment.{Moment}
use Rattle.smol_geom.specs.Axes.{EachAxis, IsOdd, IsEven, on_axis}
use Rattle.smol_geom.specs.Fraction.{Fraction, whole, ◌≈ℚ◌}
use Rattle.smol_geom.specs.Line.{part_way}
use Rattle.smol_geom.specs.Moment.{part_of}
use Rattle.smol_geom.specs.Moments.{ticks, coordinate_from, coordinate_after, is_even_at, is_before, moment_of, with_moment, with_row, moments, IsMoment, IsEvenAt, AreAllMoments}
use Rattle.smol_geom.specs.Part.{scaled_way}
use Rattle.smol_geom.proofs.Cells.{direction, even_double, exact_at, mirrored_way}
use Rattle.smol_geom.proofs.Counts.{odd_num, at_odd}
use Rattle.smol_geom.proofs.EachAxis.{at_axis}
use Rattle.smol_geom.proofs.Integers.{sums, mul-add_left, mul-neg_right}
use Rattle.smol_geom.proofs.Lists.{has_contained, contains_had}
use Rattle.smol_geom.proofs.Sorted.{rises, of_move, all_of_move}
use Rattle.smol_geom.proofs.Ways.{above_low, below_high, low_products, high_products}

module _ (p : Moment → Bool) where
  count_cons : (m : Moment) (ms : List Moment) → count_by p (m ∷ ms) ≡ cond (p m) 1 0 + count_by p ms
  count_cons m ms = sum_by-cons (λ x. cond (p x) 1 0) m ms

  count_with : (m : Moment) (ms : List Moment) → count_by p (with_moment m ms) ≡ cond (p m) 1 0 + count_by p ms
  unfolding with_moment
  count_with m [] = count_cons m []
  count_with m (n ∷ ms) =
      cond_both (is_before m n) (m ∷ n ∷ ms) (n ∷ with_moment m ms) (λ xs. count_by p xs ≡ cond (p m) 1 0 + count_by p (n ∷ ms))
      (λ e. count_cons m (n ∷ ms))
      (λ e. let one = count_cons n (with_moment m ms) in let two = count_cons n ms in omega (arith, one, two, count_with m ms))

module _ (from : Place) (by : Step3) where
  -- how many of the ticks below n of an axis have an even coordinate
  evens : ℕ → ℕ → ℕ
  evens axis zero = 0
  evens axis (suc n) = cond (is_even_at from by axis n) 1 0 + evens axis n

  count_other : (axis other n : ℕ) (ms : List Moment) → (other ≡ axis → ⊥) → count_by (λ (m : Moment). m.axis == axis) (with_row from by other n ms) ≡ count_by (λ (m : Moment). m.axis == axis) ms
  unfolding with_row
  count_other axis other zero ms apart = refl
  count_other axis other (suc n) ms apart =
      count_other axis other n (cond (is_even_at from by other n) (with_moment (moment_of by other n) ms) ms) apart
      ∙ cond_both (is_even_at from by other n) (with_moment (moment_of by other n) ms) ms (λ xs. count_by (λ (m : Moment). m.axis == axis) xs ≡ count_by (λ (m : Moment). m.axis == axis) ms)
      (λ e. count_with (λ (m : Moment). m.axis == axis) (moment_of by other n) ms ∙ rw (ne_eqb other axis apart) (omega arith))
      (λ e. refl)

  count_row : (axis n : ℕ) (ms : List Moment) → count_by (λ (m : Moment). m.axis == axis) (with_row from by axis n ms) ≡ evens axis n + count_by (λ (m : Moment). m.axis == axis) ms
  unfolding with_row evens
  count_row axis zero ms = omega arith
  count_row axis (suc n) ms =
      let rest = count_row axis n (cond (is_even_at from by axis n) (with_moment (moment_of by axis n) ms) ms) in
      let one = step in
      omega (arith, rest, one)
    where
      step : count_by (λ (m : Moment). m.axis == axis) (cond (is_even_at from by axis n) (with_moment (moment_of by axis n) ms) ms) ≡ cond (is_even_at from by axis n) 1 0 + count_by (λ (m : Moment). m.axis == axis) ms
      step = ⊎_elim
          (λ (e : is_even_at from by axis n ≡ true). rw e (count_with (λ (m : Moment). m.axis == axis) (moment_of by axis n) ms ∙ rw (eq-eqb axis axis refl) refl))
          (λ (e : is_even_at from by axis n ≡ false). rw e (omega arith))
          (cases_Bool (is_even_at from by axis n))

  module _ (odd : (j : ℕ) → j < 3 → unsigned_abs (on_axis from.0 j) % 2 ≡ 1) where
    even_there : (axis n : ℕ) → axis < 3 → n < ticks by axis → n % 2 ≡ 1 → is_even_at from by axis n ≡ true
    even_there axis n l below is =
        let half : n ≡ 2 * (n / 2) + 1 = omega (arith, is) in
        let at = subst (λ k. IsMoment from by (moment_of by axis k)) (sym half) (at_odd from by odd axis (n / 2) l (omega (arith, below, half))) in
        and_from _ _ (and_from _ _ (lt-ltb _ _ at.begun) (lt-ltb _ _ at.unfinished)) at.even

    odd_there : (axis n : ℕ) → axis < 3 → n % 2 ≡ 0 → is_even_at from by axis n ≡ false
    odd_there axis n l is = false_from_ne_true _ (λ e.
        let parts = and_parts _ _ e in
        let within = and_parts _ _ parts.0 in
        let at = odd_num from by odd (moment_of by axis n) (record { axis = l; den = refl; begun = ltb-true _ _ within.0; unfinished = ltb-true _ _ within.1; even = parts.1 }) in
        omega (arith, at, is))

    half_even : (axis n : ℕ) → axis < 3 → n ≤ ticks by axis → evens axis n ≡ n / 2
    unfolding evens
    half_even axis zero l below = omega arith
    half_even axis (suc n) l below = ⊎_elim
        (λ (e : n % 2 ≡ 1). rw (even_there axis n l (omega (arith, below)) e) (omega (arith, half_even axis n l (omega (arith, below)), e)))
        (λ (o : n % 2 ≡ 1 → ⊥). rw (odd_there axis n l (omega (arith, o))) (omega (arith, half_even axis n l (omega (arith, below)), o)))
        (cases_eq (n % 2) 1)

    count_all : (axis : ℕ) → axis < 3 → count_by (λ (m : Moment). m.axis == axis) (moments from by) ≡ evens axis (ticks by axis)
    unfolding moments
    count_all zero l =
        count_row 0 (ticks by 0) (with_row from by 1 (ticks by 1) (with_row from by 2 (ticks by 2) []))
        ∙ ap (λ n. evens 0 (ticks by 0) + n) (count_other 0 1 (ticks by 1) (with_row from by 2 (ticks by 2) []) (λ e. omega (arith, e)) ∙ count_other 0 2 (ticks by 2) [] (λ e. omega (arith, e)))
        ∙ omega arith
    count_all (suc zero) l =
        count_other 1 0 (ticks by 0) (with_row from by 1 (ticks by 1) (with_row from by 2 (ticks by 2) [])) (λ e. omega (arith, e))
        ∙ count_row 1 (ticks by 1) (with_row from by 2 (ticks by 2) [])
        ∙ ap (λ n. evens 1 (ticks by 1) + n) (count_other 1 2 (ticks by 2) [] (λ e. omega (arith, e)))
        ∙ omega arith
    count_all (suc (suc zero)) l =
        count_other 2 0 (ticks by 0) (with_row from by 1 (ticks by 1) (with_row from by 2 (ticks by 2) [])) (λ e. omega (arith, e))
        ∙ count_other 2 1 (ticks by 1) (with_row from by 2 (ticks by 2) []) (λ e. omega (arith, e))
        ∙ count_row 2 (ticks by 2) []
        ∙ omega arith
    count_all (suc (suc (suc axis))) l = absurd (omega arith)

    -- a coordinate that is reached exactly is the fraction's
    one_fraction : (z start by_ : ℤ) (t : Fraction) → scaled_way start by_ t ≡ z *ℤ pos t.den → part_way start by_ t ≈ℚ whole z
    one_fraction z start by_ t is =
        let low = above_low z start by_ t (omega (arith, sums, is)) in
        let high = below_high z start by_ t (omega (arith, sums, is)) in
        omega (arith, sums, low, high)

    even_at : (m : Moment) → IsMoment from by m → IsEvenAt from by m.axis (part_of m)
    even_at m is =
        let half = even_double (coordinate_after from by m.axis m.num) (eqb-true _ _ is.even) in
        record {
          number = omega (arith, is.begun, is.unfinished);
          begun = omega (arith, ints, is.begun);
          unfinished = omega (arith, ints, is.unfinished);
          half = half.0;
          even = subst (λ z. part_way (on_axis from.0 m.axis) (on_axis by.0 m.axis) (part_of m) ≈ℚ whole z) half.1
              (one_fraction (coordinate_after from by m.axis m.num) (on_axis from.0 m.axis) (on_axis by.0 m.axis) (part_of m)
              (exact_at (on_axis from.0 m.axis) (on_axis by.0 m.axis) m.num (part_of m) refl is.den));
        }

cancel_sum : (x y p q : ℤ) → x +ℤ p ≡ y → y ≡ x +ℤ q → p ≡ q
cancel_sum x y p q first second = omega (arith, ints, first, second)

-- some ticks of a way lead to a coordinate, and are the part t of it
record Reached (a d z : ℤ) (k den : ℕ) : Type 0 where
  pub n : ℕ
  pub begun : 0 < n
  pub unfinished : n < unsigned_abs d
  pub there : coordinate_from a d n ≡ z
  pub part : n * den ≡ k * unsigned_abs d

-- a part of all that is less than all
less_of_some : (n k den size : ℕ) → 0 < size → k < den → n * den ≡ k * size → n < size
less_of_some n k den size some less part =
    ⊎_elim (λ (fine : n < size). fine) (λ (wrong : size ≤ n). absurd (no wrong)) (cases_lt n size)
  where
    no : size ≤ n → ⊥
    no wrong =
        let a = mul-le-mul_right den wrong in
        let b : (k + 1) * size ≤ den * size = mul-le-mul_right size (omega (arith, less)) in
        omega (arith, a, b, part, some)

less_than_all : (n k den size : ℕ) → 0 < n → k < den → n * den ≡ k * size → n < size
less_than_all n k den zero some less part =
    let c : 1 * den ≤ n * den = mul-le-mul_right den (omega (arith, some)) in absurd (omega (arith, c, part, less))
less_than_all n k den (suc size) some less part = less_of_some n k den (suc size) (omega arith) less part

module _ (a d z half num : ℤ) (k den : ℕ) (odd : unsigned_abs a % 2 ≡ 1) (even : z ≡ half +ℤ half) (num_is : num ≡ pos k) (some : 0 < k) (less : k < den)
    (scaled : a *ℤ pos den +ℤ num *ℤ d ≡ z *ℤ pos den) where
  gap_whole : a +ℤ (z -ℤ a) ≡ z
  gap_whole = omega (arith, ints)

  spread : z *ℤ pos den ≡ a *ℤ pos den +ℤ (z -ℤ a) *ℤ pos den
  spread = ap (λ x. x *ℤ pos den) (sym gap_whole) ∙ mul-add_left a (z -ℤ a) (pos den)

  -- the way to the coordinate and the part of the way are one
  one_way : num *ℤ d ≡ (z -ℤ a) *ℤ pos den
  one_way = cancel_sum (a *ℤ pos den) (z *ℤ pos den) (num *ℤ d) ((z -ℤ a) *ℤ pos den) scaled spread

  gap_some_up : (n : ℕ) → z -ℤ a ≡ pos n → 0 < n
  gap_some_up n is = omega (arith, ints, is, even, odd)

  gap_some_down : (n : ℕ) → z -ℤ a ≡ neg_ℤ (pos n) → 0 < n
  gap_some_down n is = omega (arith, ints, is, even, odd)

  apart : (x y : ℕ) → pos x ≡ neg_ℤ (pos y) → y ≡ 0
  apart x y e = omega (arith, ints, e)

  apart_down : (x y : ℕ) → neg_ℤ (pos x) ≡ pos y → y ≡ 0
  apart_down x y e = omega (arith, ints, e)

  no_product : (n : ℕ) → 0 < n → n * den ≡ 0 → ⊥
  no_product n above e =
      let c : 1 * den ≤ n * den = mul-le-mul_right den (omega (arith, above)) in omega (arith, c, e, less)

  same_down : (x y : ℕ) → neg_ℤ (pos x) ≡ neg_ℤ (pos y) → x ≡ y
  same_down x y e = omega (arith, ints, e)

  reached_up : int_lt (pos 0) d ≡ true → d ≡ pos (unsigned_abs d) → (n : ℕ) → z -ℤ a ≡ pos n → Reached a d z k den
  reached_up up d_is n is =
      let made : num *ℤ d ≡ pos (k * unsigned_abs d) = λ i. num_is i *ℤ d_is i in
      let gone : (z -ℤ a) *ℤ pos den ≡ pos (n * den) = ap (λ x. x *ℤ pos den) is in
      let part : n * den ≡ k * unsigned_abs d = ap unsigned_abs (sym gone ∙ sym one_way ∙ made) in
      let above = gap_some_up n is in
      record {
        n = n;
        begun = above;
        unfinished = less_than_all n k den (unsigned_abs d) above less part;
        there = rw up (omega (arith, ints, is));
        part = part;
      }

  reached_down : int_lt (pos 0) d ≡ false → d ≡ neg_ℤ (pos (unsigned_abs d)) → (n : ℕ) → z -ℤ a ≡ neg_ℤ (pos n) → Reached a d z k den
  reached_down down d_is n is =
      let made : num *ℤ d ≡ neg_ℤ (pos (k * unsigned_abs d)) = (λ i. num_is i *ℤ d_is i) ∙ mul-neg_right (pos k) (pos (unsigned_abs d)) in
      let gone : (z -ℤ a) *ℤ pos den ≡ neg_ℤ (pos (n * den)) = ap (λ x. x *ℤ pos den) is ∙ mirrored_way (pos n) (pos den) in
      let part : n * den ≡ k * unsigned_abs d = same_down (n * den) (k * unsigned_abs d) (sym gone ∙ sym one_way ∙ made) in
      let above = gap_some_down n is in
      record {
        n = n;
        begun = above;
        unfinished = less_than_all n k den (unsigned_abs d) above less part;
        there = rw down (omega (arith, ints, is));
        part = part;
      }

  reached : Reached a d z k den
  reached = go (direction d) (direction (z -ℤ a))
    where
      go : ((int_lt (pos 0) d ≡ true) × (d ≡ pos (unsigned_abs d))) ⊎ ((int_lt (pos 0) d ≡ false) × (d ≡ neg_ℤ (pos (unsigned_abs d))))
          → ((int_lt (pos 0) (z -ℤ a) ≡ true) × (z -ℤ a ≡ pos (unsigned_abs (z -ℤ a)))) ⊎ ((int_lt (pos 0) (z -ℤ a) ≡ false) × (z -ℤ a ≡ neg_ℤ (pos (unsigned_abs (z -ℤ a)))))
          → Reached a d z k den
      go (inl w) (inl g) = reached_up w.0 w.1 (unsigned_abs (z -ℤ a)) g.1
      go (inr w) (inr g) = reached_down w.0 w.1 (unsigned_abs (z -ℤ a)) g.1
      go (inl w) (inr g) =
          let made : num *ℤ d ≡ pos (k * unsigned_abs d) = λ i. num_is i *ℤ w.1 i in
          let gone : (z -ℤ a) *ℤ pos den ≡ neg_ℤ (pos (unsigned_abs (z -ℤ a) * den)) = ap (λ x. x *ℤ pos den) g.1 ∙ mirrored_way (pos (unsigned_abs (z -ℤ a))) (pos den) in
          absurd (no_product (unsigned_abs (z -ℤ a)) (gap_some_down (unsigned_abs (z -ℤ a)) g.1)
          (apart (k * unsigned_abs d) (unsigned_abs (z -ℤ a) * den) (sym made ∙ one_way ∙ gone)))
      go (inr w) (inl g) =
          let made : num *ℤ d ≡ neg_ℤ (pos (k * unsigned_abs d)) = (λ i. num_is i *ℤ w.1 i) ∙ mul-neg_right (pos k) (pos (unsigned_abs d)) in
          let gone : (z -ℤ a) *ℤ pos den ≡ pos (unsigned_abs (z -ℤ a) * den) = ap (λ x. x *ℤ pos den) g.1 in
          absurd (no_product (unsigned_abs (z -ℤ a)) (gap_some_up (unsigned_abs (z -ℤ a)) g.1)
          (apart_down (k * unsigned_abs d) (unsigned_abs (z -ℤ a) * den) (sym made ∙ one_way ∙ gone)))

-- what a fraction of a way reaches exactly
exact_from : (z start by : ℤ) (t : Fraction) → part_way start by t ≈ℚ whole z → scaled_way start by t ≡ z *ℤ pos t.den
exact_from z start by t is =
    let low = low_products z start by t (omega (arith, sums, is)) in
    let high = high_products z start by t (omega (arith, sums, is)) in
    omega (arith, sums, low, high)

positive_num : (num : ℤ) (den : ℕ) → (pos 0 *ℤ pos den) <ℤ (num *ℤ pos 1) → num ≡ pos (unsigned_abs num)
positive_num (pos n) den above = refl
positive_num (negsuc n) den above = absurd (omega (arith, ints, above))

some_num : (num : ℤ) (den : ℕ) → num ≡ pos (unsigned_abs num) → (pos 0 *ℤ pos den) <ℤ (num *ℤ pos 1) → 0 < unsigned_abs num
some_num num den is above = omega (arith, ints, is, above)

less_num : (num : ℤ) (den : ℕ) → num ≡ pos (unsigned_abs num) → (num *ℤ pos 1) <ℤ (pos 1 *ℤ pos den) → unsigned_abs num < den
less_num num den is below = omega (arith, ints, is, below)

double_even : (z half : ℤ) → z ≡ half +ℤ half → unsigned_abs z % 2 ≡ 0
double_even z half is = omega (arith, ints, is)

module _ (from : Place) (by : Step3) (odd : EachAxis (λ axis. IsOdd (on_axis from.0 axis))) (even : EachAxis (λ axis. IsEven (on_axis by.0 axis))) where
  odd_at : (j : ℕ) → j < 3 → unsigned_abs (on_axis from.0 j) % 2 ≡ 1
  odd_at j l = at_axis (λ k. IsOdd (on_axis from.0 k)) j l odd

  complete : (axis : ℕ) (t : Fraction) → axis < 3 → IsEvenAt from by axis t → (m : Moment) × Contains (moments from by) m × (m.axis ≡ axis) × (part_of m ≈ℚ t)
  complete axis t l is =
      let num_is = positive_num t.num t.den is.begun in
      let r = reached (on_axis from.0 axis) (on_axis by.0 axis) (is.half +ℤ is.half) is.half t.num (unsigned_abs t.num) t.den (odd_at axis l) refl num_is
      (some_num t.num t.den num_is is.begun) (less_num t.num t.den num_is is.unfinished)
      (exact_from (is.half +ℤ is.half) (on_axis from.0 axis) (on_axis by.0 axis) t is.even) in (
        moment_of by axis r.n,
        contains_had (moments from by) (moment_of by axis r.n) (all_of_move from by (moment_of by axis r.n) (record {
          axis = l;
          den = refl;
          begun = r.begun;
          unfinished = r.unfinished;
          even = eq-eqb _ _ (double_even (coordinate_after from by axis r.n) is.half r.there);
        })),
        refl,
        ap pos r.part ∙ ap (λ x. x *ℤ pos (ticks by axis)) (sym num_is),
      )

  pub are_all : AreAllMoments from by
  are_all =
      record {
        in_order = rises from by;
        even = λ m h. let is = of_move from by m (has_contained (moments from by) m h) in (is.axis, even_at from by odd_at m is);
        complete = complete;
        count = λ axis l.
            let half = half_even from by odd_at axis (ticks by axis) l (omega arith) in
            let all = count_all from by odd_at axis l in
            omega (arith, half, all, at_axis (λ k. IsEven (on_axis by.0 k)) axis l even);
      }
