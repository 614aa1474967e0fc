-- The moments that are left, counted on each axis.
use Rattle.std.proofs.Common.{◌≡◌, ℕ, ◌+◌, ◌*◌, ◌<◌, ◌≤◌, ◌%◌, true, false, ◌==◌, ◌⊎◌, inl, inr, ⊎_elim, List, ◌∷◌, cond, refl, sym, ◌∙◌, ap, arith, ℤ, pos, ◌+ℤ◌, ◌-ℤ◌, int_lt, unsigned_abs}
use Rattle.std.proofs.lemmas.Bool.{cases_Bool, cases_eq, cases_lt, eq-eqb, eqb-true, ne_eqb}
use Rattle.std.proofs.lemmas.Int.{ints}
use Rattle.std.proofs.Math.Nat.{mul-le-mul_right, mul-le-mul_left}
use Rattle.smol_geom.specs.declared.place.Place.{Place}
use Rattle.smol_geom.specs.declared.place.Step3.{Step3}
use Rattle.smol_geom.specs.declared.moment.Moment.{Moment}
use Rattle.smol_geom.specs.Axes.{on_axis}
use Rattle.smol_geom.specs.Moments.{Has, IsInOrder, IsMoment}
use Rattle.smol_geom.specs.Moments.{ticks, coordinate_after, is_even, is_before, moment_of, moments}
use Rattle.smol_geom.proofs.Order.{Before, before_is}
use Rattle.smol_geom.proofs.Sorted.{rises, of_move, all_of_move}

-- an odd number and an odd one make an even one
odd_odd : (a : ℤ) (n k : ℕ) → unsigned_abs a % 2 ≡ 1 → n ≡ 2 * k + 1 → unsigned_abs (a +ℤ pos n) % 2 ≡ 0
odd_odd a n k odd is = omega (arith, ints)

odd_odd_down : (a : ℤ) (n k : ℕ) → unsigned_abs a % 2 ≡ 1 → n ≡ 2 * k + 1 → unsigned_abs (a -ℤ pos n) % 2 ≡ 0
odd_odd_down a n k odd is = omega (arith, ints)

odd_num_up : (a : ℤ) (n : ℕ) → unsigned_abs a % 2 ≡ 1 → unsigned_abs (a +ℤ pos n) % 2 ≡ 0 → n % 2 ≡ 1
odd_num_up a n odd even = omega (arith, ints)

odd_num_down : (a : ℤ) (n : ℕ) → unsigned_abs a % 2 ≡ 1 → unsigned_abs (a -ℤ pos n) % 2 ≡ 0 → n % 2 ≡ 1
odd_num_down a n odd even = omega (arith, ints)

-- a count with one more on an axis
abbrev pub more : (ℕ → ℕ) → ℕ → ℕ → ℕ
more c i j = cond (j == i) (c j + 1) (c j)

module _ (from : Place) (by : Step3) (odd : (j : ℕ) → j < 3 → unsigned_abs (on_axis from.0 j) % 2 ≡ 1) where
  -- the moments of a move that are left, where on each axis j the first c j are done
  pub record Left (c : ℕ → ℕ) (ms : List Moment) : Type 0 where
    pub rising : IsInOrder ms
    pub are : (m : Moment) → Has ms m → IsMoment from by m
    pub rest : (m : Moment) → Has ms m → 2 * c m.axis + 1 ≤ m.num
    pub all : (m : Moment) → IsMoment from by m → 2 * c m.axis + 1 ≤ m.num → Has ms m
    pub done : (m : Moment) → Has ms m → (j : ℕ) → j < 3 → 2 * c j * m.den ≤ m.num * ticks by j + m.den
    pub made : (j : ℕ) → j < 3 → 2 * c j ≤ ticks by j

  -- a moment is at an odd tick
  pub odd_num : (m : Moment) → IsMoment from by m → m.num % 2 ≡ 1
  odd_num m h = go (cases_Bool (int_lt (pos 0) (on_axis by.0 m.axis)))
    where
      go : (int_lt (pos 0) (on_axis by.0 m.axis) ≡ true) ⊎ (int_lt (pos 0) (on_axis by.0 m.axis) ≡ false) → m.num % 2 ≡ 1
      go (inl e) = odd_num_up (on_axis from.0 m.axis) m.num (odd m.axis h.axis) (eqb-true _ _ (rw e at h.even))
      go (inr e) = odd_num_down (on_axis from.0 m.axis) m.num (odd m.axis h.axis) (eqb-true _ _ (rw e at h.even))

  -- and each odd tick within is a moment
  pub at_odd : (j k : ℕ) → j < 3 → 2 * k + 1 < ticks by j → IsMoment from by (moment_of by j (2 * k + 1))
  at_odd j k l within =
      record { axis = l; den = refl; begun = omega arith; unfinished = within; even = go (cases_Bool (int_lt (pos 0) (on_axis by.0 j))) }
    where
      go : (int_lt (pos 0) (on_axis by.0 j) ≡ true) ⊎ (int_lt (pos 0) (on_axis by.0 j) ≡ false) → is_even (coordinate_after from by j (2 * k + 1)) ≡ true
      go (inl e) = rw e (eq-eqb _ 0 (odd_odd (on_axis from.0 j) (2 * k + 1) k (odd j l) refl))
      go (inr e) = rw e (eq-eqb _ 0 (odd_odd_down (on_axis from.0 j) (2 * k + 1) k (odd j l) refl))

  -- what comes later is at no lesser part
  no_less : (a b : Moment) → is_before a b ≡ true → a.num * b.den ≤ b.num * a.den
  no_less a b e = go (before_is a b e)
    where
      go : Before a b → a.num * b.den ≤ b.num * a.den
      go (inl l) = omega (arith, l)
      go (inr r) = omega (arith, r.0)

  -- at first all are left
  pub all_left : Left (λ _. 0) (moments from by)
  all_left =
      record {
        rising = rises from by;
        are = of_move from by;
        rest = λ m h. omega (arith, (of_move from by m h).begun);
        all = λ m h l. all_of_move from by m h;
        done = λ m h j l. omega arith;
        made = λ j l. omega arith;
      }

  module _ (c : ℕ → ℕ) (m : Moment) (ms : List Moment) (left : Left c (m ∷ ms)) where
    pub m_is : IsMoment from by m
    m_is = left.are m (inl refl)

    -- on one axis what comes later has more ticks
    more_ticks : (n : Moment) → Has ms n → n.axis ≡ m.axis → m.num < n.num
    more_ticks n h same =
        ⊎_elim (λ (l : m.num < n.num). l) (λ (l : n.num ≤ m.num). absurd (no l (before_is m n (left.rising.0 n h)))) (cases_lt m.num n.num)
      where
        dens : n.den ≡ m.den
        dens = (left.are n (inr h)).den ∙ ap (ticks by) same ∙ sym m_is.den

        no : n.num ≤ m.num → Before m n → ⊥
        no l (inl b) =
            let grown : n.num * m.den ≤ m.num * m.den = mul-le-mul_right m.den l in
            let is : m.num * n.den ≡ m.num * m.den = ap (λ x. m.num * x) dens in
            omega (arith, b, grown, is)
        no l (inr b) = omega (arith, b.1, same)

    -- the first moment of those left is the first that is left on its axis
    pub head_num : m.num ≡ 2 * c m.axis + 1
    head_num = go (left.all first first_is (omega arith))
      where
        first : Moment
        first = moment_of by m.axis (2 * c m.axis + 1)

        first_is : IsMoment from by (moment_of by m.axis (2 * c m.axis + 1))
        first_is = at_odd m.axis (c m.axis) m_is.axis (omega (arith, left.rest m (inl refl), m_is.unfinished, m_is.den))

        go : Has (m ∷ ms) (moment_of by m.axis (2 * c m.axis + 1)) → m.num ≡ 2 * c m.axis + 1
        go (inl same) = ap (λ (x : Moment). x.num) same
        go (inr there) = absurd (omega (arith, more_ticks _ there refl, left.rest m (inl refl)))

    -- each other axis has made as many ticks as its count says, to within one
    pub not_ahead : (j : ℕ) → j < 3 → m.num * ticks by j ≤ 2 * c j * m.den + m.den
    not_ahead j l = ⊎_elim
        (λ (within : 2 * c j + 1 < ticks by j). go (left.all (moment_of by j (2 * c j + 1)) (at_odd j (c j) l within) (omega arith)))
        (λ (beyond : ticks by j ≤ 2 * c j + 1).
        let a = mul-le-mul_left m.num beyond in
        let b : m.num * (2 * c j + 1) ≤ m.den * (2 * c j + 1) = mul-le-mul_right (2 * c j + 1) (omega (arith, m_is.unfinished)) in
        omega (arith, a, b))
        (cases_lt (2 * c j + 1) (ticks by j))
      where
        go : Has (m ∷ ms) (moment_of by j (2 * c j + 1)) → m.num * ticks by j ≤ 2 * c j * m.den + m.den
        go (inl same) =
            let nums : m.num ≡ 2 * c j + 1 = ap (λ (x : Moment). x.num) same in
            let dens : m.den ≡ ticks by j = ap (λ (x : Moment). x.den) same in
            let is : m.num * ticks by j ≡ (2 * c j + 1) * m.den = (λ i. nums i * sym dens i) in
            omega (arith, is)
        go (inr there) = omega (arith, no_less m _ (left.rising.0 _ there))

    pub not_behind : (j : ℕ) → j < 3 → 2 * c j * m.den ≤ m.num * ticks by j + m.den
    not_behind j l = left.done m (inl refl) j l

    -- after it the rest is left, with one more done on its axis
    pub rest_left : Left (more c m.axis) ms
    rest_left =
        record {
          rising = left.rising.1;
          are = λ n h. left.are n (inr h);
          rest = λ n h. now_rest n h (cases_eq n.axis m.axis);
          all = λ n is l. now_all n is l (cases_eq n.axis m.axis);
          done = λ n h j l. now_done n h j l (cases_eq j m.axis);
          made = λ j l. now_made j l (cases_eq j m.axis);
        }
      where
        now_made : (j : ℕ) → j < 3 → (j ≡ m.axis) ⊎ (j ≡ m.axis → ⊥) → 2 * more c m.axis j ≤ ticks by j
        now_made j l (inl same) =
            let on : j == m.axis ≡ true = eq-eqb _ _ same in
            let count : c j ≡ c m.axis = ap c same in
            let dens : m.den ≡ ticks by j = m_is.den ∙ ap (ticks by) (sym same) in
            rw on (omega (arith, head_num, count, dens, m_is.unfinished))
        now_made j l (inr other) = rw (ne_eqb j m.axis other) (left.made j l)

        now_rest : (n : Moment) → Has ms n → (n.axis ≡ m.axis) ⊎ (n.axis ≡ m.axis → ⊥) → 2 * more c m.axis n.axis + 1 ≤ n.num
        now_rest n h (inl same) =
            let on : n.axis == m.axis ≡ true = eq-eqb _ _ same in
            let count : c n.axis ≡ c m.axis = ap c same in
            rw on (omega (arith, more_ticks n h same, head_num, count, odd_num n (left.are n (inr h))))
        now_rest n h (inr other) = rw (ne_eqb n.axis m.axis other) (left.rest n (inr h))

        now_all : (n : Moment) → IsMoment from by n → 2 * more c m.axis n.axis + 1 ≤ n.num → (n.axis ≡ m.axis) ⊎ (n.axis ≡ m.axis → ⊥) → Has ms n
        now_all n is l (inl same) =
            let on : n.axis == m.axis ≡ true = eq-eqb _ _ same in
            let count : c n.axis ≡ c m.axis = ap c same in
            let k : 2 * (c n.axis + 1) + 1 ≤ n.num = rw on at l in
            ⊎_elim
            (λ (e : m ≡ n). absurd (omega (arith, ap (λ (x : Moment). x.num) e, head_num, count, k)))
            (λ (there : Has ms n). there)
            (left.all n is (omega (arith, k)))
        now_all n is l (inr other) =
            let k : 2 * c n.axis + 1 ≤ n.num = rw (ne_eqb n.axis m.axis other) at l in
            ⊎_elim (λ (e : m ≡ n). absurd (other (sym (ap (λ (x : Moment). x.axis) e)))) (λ (there : Has ms n). there) (left.all n is k)

        now_done : (n : Moment) → Has ms n → (j : ℕ) → j < 3 → (j ≡ m.axis) ⊎ (j ≡ m.axis → ⊥) → 2 * more c m.axis j * n.den ≤ n.num * ticks by j + n.den
        now_done n h j l (inl same) =
            let on : j == m.axis ≡ true = eq-eqb _ _ same in
            let count : c j ≡ c m.axis = ap c same in
            let dens : m.den ≡ ticks by j = m_is.den ∙ ap (ticks by) (sym same) in
            let order = no_less m n (left.rising.0 n h) in
            let made : m.num * n.den ≡ (2 * c j + 1) * n.den = ap (λ x. x * n.den) (head_num ∙ ap (λ x. 2 * x + 1) (sym count)) in
            let far : n.num * m.den ≡ n.num * ticks by j = ap (λ x. n.num * x) dens in
            rw on (omega (arith, order, made, far))
        now_done n h j l (inr other) = rw (ne_eqb j m.axis other) (left.done n (inr h) j l)
