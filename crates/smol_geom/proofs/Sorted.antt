-- The list of moments is in order, and has each moment of the move and no other.
use Rattle.std.proofs.Common.{◌≡◌, ℕ, zero, suc, ◌+◌, ◌*◌, ◌<◌, ◌≤◌, true, false, ◌⊎◌, inl, inr, ⊎_elim, List, [], ◌∷◌, cond, refl, sym, ◌∙◌, ap, subst, arith}
use Rattle.std.proofs.lemmas.Bool.{cases_Bool, cases_eq, both_ways, cond_both, and_parts, and_from, lt-ltb, ltb-true}
use Rattle.std.proofs.Math.Nat.{mul-le-mul_right}
use Rattle.smol_geom.specs.declared.place.Place.{Place}
use Rattle.smol_geom.specs.declared.place.Step3.{Step3}
use Rattle.smol_geom.specs.declared.moment.Moment.{Moment}
use Rattle.smol_geom.specs.Moments.{Has, IsInOrder, IsMoment}
use Rattle.smol_geom.specs.Moments.{ticks, is_before, is_even_at, moment_of, with_moment, with_row, moments}
use Rattle.smol_geom.proofs.Order.{before_trans, before_either}

-- what a list has with a moment more
pub has_with_moment : (m : Moment) (ms : List Moment) (n : Moment) → Has (with_moment m ms) n → (m ≡ n) ⊎ Has ms n
unfolding with_moment
has_with_moment m [] n h = h
has_with_moment m (k ∷ ms) n h = ⊎_elim
    (λ (e : is_before m k ≡ true). rw e at h)
    (λ (e : is_before m k ≡ false). later (rw e at h) (λ t. has_with_moment m ms n t))
    (cases_Bool (is_before m k))
  where
    later : (k ≡ n) ⊎ Has (with_moment m ms) n → (Has (with_moment m ms) n → (m ≡ n) ⊎ Has ms n) → (m ≡ n) ⊎ Has (k ∷ ms) n
    later (inl same) more = inr (inl same)
    later (inr there) more = ⊎_elim (λ (x : m ≡ n). inl x) (λ (x : Has ms n). inr (inr x)) (more there)

pub with_moment_has : (m : Moment) (ms : List Moment) (n : Moment) → (m ≡ n) ⊎ Has ms n → Has (with_moment m ms) n
unfolding with_moment
with_moment_has m [] n h = h
with_moment_has m (k ∷ ms) n h =
    cond_both (is_before m k) (m ∷ k ∷ ms) (k ∷ with_moment m ms) (λ xs. Has xs n) (λ e. h) (λ e. later h (λ t. with_moment_has m ms n t))
  where
    later : (m ≡ n) ⊎ Has (k ∷ ms) n → ((m ≡ n) ⊎ Has ms n → Has (with_moment m ms) n) → Has (k ∷ with_moment m ms) n
    later (inl same) more = inr (more (inl same))
    later (inr (inl same)) more = inl same
    later (inr (inr there)) more = inr (more (inr there))

-- each of the list has a part above nothing
abbrev pub HasParts : List Moment → Type 0
HasParts ms = (n : Moment) → Has ms n → 0 < n.den

-- none of the list is at one with m
abbrev IsNew : Moment → List Moment → Type 0
IsNew m ms = (n : Moment) → Has ms n → (m.num * n.den) ≡ (n.num * m.den) → m.axis ≡ n.axis → ⊥

with_moment_in_order : (m : Moment) (ms : List Moment) → 0 < m.den → HasParts ms → IsNew m ms → IsInOrder ms → IsInOrder (with_moment m ms)
unfolding with_moment
with_moment_in_order m [] pm parts new up = ((λ n h. absurd h), tt)
with_moment_in_order m (k ∷ ms) pm parts new up =
    cond_both (is_before m k) (m ∷ k ∷ ms) (k ∷ with_moment m ms) (λ xs. IsInOrder xs)
    (λ e. ((λ n h. first e n h), up))
    (λ e. ((λ n h. behind e n (has_with_moment m ms n h)), with_moment_in_order m ms pm (λ n h. parts n (inr h)) (λ n h. new n (inr h)) up.1))
  where
    first : is_before m k ≡ true → (n : Moment) → Has (k ∷ ms) n → is_before m n ≡ true
    first e n (inl same) = ap (is_before m) (sym same) ∙ e
    first e n (inr there) = before_trans m k n pm (parts k (inl refl)) (parts n (inr there)) e (up.0 n there)

    k_first : is_before m k ≡ false → is_before k m ≡ true
    k_first e = ⊎_elim
        (λ (x : is_before m k ≡ true). absurd (both_ways _ e x))
        (λ h. ⊎_elim (λ (x : is_before k m ≡ true). x) (λ x. absurd (new k (inl refl) x.0 x.1)) h)
        (before_either m k)

    behind : is_before m k ≡ false → (n : Moment) → (m ≡ n) ⊎ Has ms n → is_before k n ≡ true
    behind e n (inl same) = ap (is_before k) (sym same) ∙ k_first e
    behind e n (inr there) = up.0 n there

module _ (from : Place) (by : Step3) (axis : ℕ) where
  -- the moment is that at some of the first n ticks
  abbrev IsInRow : ℕ → Moment → Type 0
  IsInRow n m = (k : ℕ) × (k < n) × (is_even_at from by axis k ≡ true) × (moment_of by axis k ≡ m)

  wider : (n : ℕ) (m : Moment) → IsInRow n m → IsInRow (suc n) m
  wider n m h = (h.0, omega (arith, h.1), h.2, h.3)

  has_row : (n : ℕ) (ms : List Moment) (m : Moment) → Has (with_row from by axis n ms) m → Has ms m ⊎ IsInRow n m
  unfolding with_row
  has_row zero ms m h = inl h
  has_row (suc n) ms m h =
      step (cases_Bool (is_even_at from by axis n))
      (has_row n (cond (is_even_at from by axis n) (with_moment (moment_of by axis n) ms) ms) m h)
    where
      step : (is_even_at from by axis n ≡ true) ⊎ (is_even_at from by axis n ≡ false)
          → Has (cond (is_even_at from by axis n) (with_moment (moment_of by axis n) ms) ms) m ⊎ IsInRow n m → Has ms m ⊎ IsInRow (suc n) m
      step e (inr row) = inr (wider n m row)
      step (inl e) (inl h) = ⊎_elim
          (λ (same : moment_of by axis n ≡ m). inr (n, omega arith, e, same))
          (λ (there : Has ms m). inl there)
          (has_with_moment (moment_of by axis n) ms m (rw e at h))
      step (inr e) (inl h) = inl (rw e at h)

  row_has : (n : ℕ) (ms : List Moment) (m : Moment) → Has ms m ⊎ IsInRow n m → Has (with_row from by axis n ms) m
  unfolding with_row
  row_has zero ms m (inl h) = h
  row_has zero ms m (inr h) = absurd (omega (arith, h.1))
  row_has (suc n) ms m h = row_has n _ m (step h)
    where
      step : Has ms m ⊎ IsInRow (suc n) m → Has (cond (is_even_at from by axis n) (with_moment (moment_of by axis n) ms) ms) m ⊎ IsInRow n m
      step (inl h) = inl (cond_both (is_even_at from by axis n) (with_moment (moment_of by axis n) ms) ms (λ xs. Has xs m) (λ e. with_moment_has (moment_of by axis n) ms m (inr h)) (λ e. h))
      step (inr row) = ⊎_elim
          (λ (same : row.0 ≡ n).
          let even : is_even_at from by axis n ≡ true = ap (is_even_at from by axis) (sym same) ∙ row.2 in
          let is : moment_of by axis n ≡ m = ap (moment_of by axis) (sym same) ∙ row.3 in
          inl (rw even (with_moment_has (moment_of by axis n) ms m (inl is))))
          (λ (other : row.0 ≡ n → ⊥). inr (row.0, omega (arith, row.1), row.2, row.3))
          (cases_eq row.0 n)

  -- of the moments of this axis the list has none before the n-th tick
  abbrev IsFrom : ℕ → List Moment → Type 0
  IsFrom n ms = (m : Moment) → Has ms m → m.axis ≡ axis → (n ≤ m.num) × (m.den ≡ ticks by axis)

  some_ticks : (n : ℕ) → is_even_at from by axis n ≡ true → 0 < ticks by axis
  some_ticks n e =
      let parts = and_parts _ _ (and_parts _ _ e).0 in
      omega (arith, ltb-true n (ticks by axis) parts.1)

  row_parts : (n : ℕ) (ms : List Moment) → HasParts ms → HasParts (with_row from by axis n ms)
  row_parts n ms parts m h = go (has_row n ms m h)
    where
      go : Has ms m ⊎ IsInRow n m → 0 < m.den
      go (inl there) = parts m there
      go (inr row) = omega (arith, some_ticks row.0 row.2, ap (λ (x : Moment). x.den) row.3)

  row_rises : (n : ℕ) (ms : List Moment) → HasParts ms → IsFrom n ms → IsInOrder ms → IsInOrder (with_row from by axis n ms)
  unfolding with_row
  row_rises zero ms parts fresh up = up
  row_rises (suc n) ms parts fresh up =
      row_rises n _ (now_parts (cases_Bool (is_even_at from by axis n))) (now_from (cases_Bool (is_even_at from by axis n))) (now_rises (cases_Bool (is_even_at from by axis n)))
    where
      now_parts : (is_even_at from by axis n ≡ true) ⊎ (is_even_at from by axis n ≡ false) → HasParts (cond (is_even_at from by axis n) (with_moment (moment_of by axis n) ms) ms)
      now_parts (inl e) = rw e (λ k h. ⊎_elim (λ (same : moment_of by axis n ≡ k). omega (arith, some_ticks n e, ap (λ (x : Moment). x.den) same)) (λ (there : Has ms k). parts k there) (has_with_moment (moment_of by axis n) ms k h))
      now_parts (inr e) = rw e parts

      now_from : (is_even_at from by axis n ≡ true) ⊎ (is_even_at from by axis n ≡ false) → IsFrom n (cond (is_even_at from by axis n) (with_moment (moment_of by axis n) ms) ms)
      now_from (inl e) = rw e (λ k h a. ⊎_elim
          (λ (same : moment_of by axis n ≡ k). (omega (arith, ap (λ (x : Moment). x.num) same), sym (ap (λ (x : Moment). x.den) same)))
          (λ (there : Has ms k). let f = fresh k there a in (omega (arith, f.0), f.1))
          (has_with_moment (moment_of by axis n) ms k h))
      now_from (inr e) = rw e (λ k h a. let f = fresh k h a in (omega (arith, f.0), f.1))

      new : 0 < ticks by axis → IsNew (moment_of by axis n) ms
      new some k h same a =
          let f = fresh k h (sym a) in
          let den : n * k.den ≡ n * ticks by axis = ap (λ x. n * x) f.1 in
          let later : (n + 1) * ticks by axis ≤ k.num * ticks by axis = mul-le-mul_right (ticks by axis) (omega (arith, f.0)) in
          omega (arith, same, den, later, some)

      now_rises : (is_even_at from by axis n ≡ true) ⊎ (is_even_at from by axis n ≡ false) → IsInOrder (cond (is_even_at from by axis n) (with_moment (moment_of by axis n) ms) ms)
      now_rises (inl e) = rw e (with_moment_in_order (moment_of by axis n) ms (some_ticks n e) parts (new (some_ticks n e)) up)
      now_rises (inr e) = rw e up

-- what is in the row of another axis has that axis
other_axis : (from : Place) (by : Step3) (axis n : ℕ) (m : Moment) → IsInRow from by axis n m → m.axis ≡ axis
other_axis from by axis n m row = sym (ap (λ (x : Moment). x.axis) row.3)

module _ (from : Place) (by : Step3) where
  abbrev row2 : List Moment
  row2 = with_row from by 2 (ticks by 2) []

  abbrev row1 : List Moment
  row1 = with_row from by 1 (ticks by 1) row2

  on2 : (m : Moment) → Has row2 m → m.axis ≡ 2
  on2 m h = ⊎_elim (λ (x : Has [] m). absurd x) (λ (x : IsInRow from by 2 (ticks by 2) m). other_axis from by 2 _ m x) (has_row from by 2 _ [] m h)

  on1 : (m : Moment) → Has row1 m → (m.axis ≡ 1) ⊎ (m.axis ≡ 2)
  on1 m h = ⊎_elim (λ (x : Has row2 m). inr (on2 m x)) (λ (x : IsInRow from by 1 (ticks by 1) m). inl (other_axis from by 1 _ m x)) (has_row from by 1 _ row2 m h)

  pub parts : HasParts (moments from by)
  unfolding moments
  parts = row_parts from by 0 _ row1 (row_parts from by 1 _ row2 (row_parts from by 2 _ [] (λ m h. absurd h)))

  pub rises : IsInOrder (moments from by)
  unfolding moments
  rises =
      row_rises from by 0 _ row1 (row_parts from by 1 _ row2 (row_parts from by 2 _ [] (λ m h. absurd h)))
      (λ m h a. ⊎_elim (λ (x : m.axis ≡ 1). absurd (omega arith)) (λ (x : m.axis ≡ 2). absurd (omega arith)) (on1 m h))
      (row_rises from by 1 _ row2 (row_parts from by 2 _ [] (λ m h. absurd h))
      (λ m h a. let x = on2 m h in absurd (omega arith))
      (row_rises from by 2 _ [] (λ m h. absurd h) (λ m h. absurd h) tt))

  is_moment : (axis : ℕ) (m : Moment) → axis < 3 → IsInRow from by axis (ticks by axis) m → IsMoment from by m
  is_moment axis m l row =
      subst (IsMoment from by) row.3
      (let e = and_parts _ _ row.2 in let w = and_parts _ _ e.0 in
      record { axis = l; den = refl; begun = ltb-true _ _ w.0; unfinished = ltb-true _ _ w.1; even = e.1 })

  in_row : (m : Moment) → IsMoment from by m → IsInRow from by m.axis (ticks by m.axis) m
  in_row m h = (
    m.num,
    omega (arith, h.unfinished, h.den),
    and_from _ _ (and_from _ _ (lt-ltb _ _ h.begun) (lt-ltb _ _ (omega (arith, h.unfinished, h.den)))) h.even,
    λ i. record { num = m.num; den = sym h.den i; axis = m.axis },
  )

  -- each is a moment of the move
  pub of_move : (m : Moment) → Has (moments from by) m → IsMoment from by m
  unfolding moments
  of_move m h = ⊎_elim
      (λ (x : Has row1 m). ⊎_elim
      (λ (y : Has row2 m). ⊎_elim (λ (z : Has [] m). absurd z) (λ (z : IsInRow from by 2 (ticks by 2) m). is_moment 2 m (omega arith) z) (has_row from by 2 _ [] m y))
      (λ (y : IsInRow from by 1 (ticks by 1) m). is_moment 1 m (omega arith) y)
      (has_row from by 1 _ row2 m x))
      (λ (x : IsInRow from by 0 (ticks by 0) m). is_moment 0 m (omega arith) x)
      (has_row from by 0 _ row1 m h)

  -- each moment of the move is among them
  pub all_of_move : (m : Moment) → IsMoment from by m → Has (moments from by) m
  unfolding moments
  all_of_move m h = go m.axis refl h.axis
    where
      row : (axis : ℕ) → m.axis ≡ axis → IsInRow from by axis (ticks by axis) m
      row axis e = subst (λ a. IsInRow from by a (ticks by a) m) e (in_row m h)

      go : (axis : ℕ) → m.axis ≡ axis → axis < 3 → Has (with_row from by 0 (ticks by 0) row1) m
      go zero e l = row_has from by 0 _ row1 m (inr (row 0 e))
      go (suc zero) e l = row_has from by 0 _ row1 m (inl (row_has from by 1 _ row2 m (inr (row 1 e))))
      go (suc (suc zero)) e l = row_has from by 0 _ row1 m (inl (row_has from by 1 _ row2 m (inl (row_has from by 2 _ [] m (inr (row 2 e))))))
      go (suc (suc (suc n))) e l = absurd (omega arith)
