-- The order of moments.
use Rattle.std.proofs.Common.{◌≡◌, ℕ, ◌+◌, ◌*◌, ◌<◌, ◌≤◌, true, false, ◌⊎◌, inl, inr, ⊎_elim, sym, ap, arith}
use Rattle.std.proofs.Math.Nat.{mul-le-mul_right}
use Rattle.std.proofs.lemmas.Bool.{cases_order, cases_lt, lt-ltb, ltb-true, eq-eqb, eqb-true, or_cases, or_left, or_right, and_parts, and_from, false_from_ne_true}
use Rattle.smol_geom.specs.declared.moment.Moment.{Moment}
use Rattle.smol_geom.specs.Moments.{is_before}

-- the first fraction is less than the second, or they are one and the axis decides
abbrev pub Before : Moment → Moment → Type 0
Before a b =
    ((a.num * b.den) < (b.num * a.den)) ⊎ (((a.num * b.den) ≡ (b.num * a.den)) × (a.axis < b.axis))

pub before_is : (a b : Moment) → is_before a b ≡ true → Before a b
before_is a b e =
    ⊎_elim
    (λ l. inl (ltb-true (a.num * b.den) (b.num * a.den) l))
    (λ r. let p = and_parts _ _ r in inr (eqb-true _ _ p.0, ltb-true _ _ p.1))
    (or_cases _ _ e)

pub is_before_from : (a b : Moment) → Before a b → is_before a b ≡ true
is_before_from a b (inl l) = or_left _ _ (lt-ltb _ _ l)
is_before_from a b (inr r) = or_right _ _ (and_from _ _ (eq-eqb _ _ r.0) (lt-ltb _ _ r.1))

-- fractions that don't fall, of which one rises
lt_lt : (an ad bn bd cn cd : ℕ) → 0 < ad → an * bd < bn * ad → bn * cd ≤ cn * bd → 0 < cd → an * cd < cn * ad
lt_lt an ad bn bd cn cd pa first second pc =
    ⊎_elim (λ (fine : an * cd < cn * ad). fine) (λ (wrong : cn * ad ≤ an * cd). absurd (no wrong)) (cases_lt (an * cd) (cn * ad))
  where
    no : cn * ad ≤ an * cd → ⊥
    no wrong =
        let w = mul-le-mul_right bd wrong in
        let f : (an * bd + 1) * cd ≤ (bn * ad) * cd = mul-le-mul_right cd (omega (arith, first)) in
        let s = mul-le-mul_right ad second in
        omega arith

le_lt : (an ad bn bd cn cd : ℕ) → 0 < ad → an * bd ≤ bn * ad → bn * cd < cn * bd → 0 < cd → an * cd < cn * ad
le_lt an ad bn bd cn cd pa first second pc =
    ⊎_elim (λ (fine : an * cd < cn * ad). fine) (λ (wrong : cn * ad ≤ an * cd). absurd (no wrong)) (cases_lt (an * cd) (cn * ad))
  where
    no : cn * ad ≤ an * cd → ⊥
    no wrong =
        let w = mul-le-mul_right bd wrong in
        let f = mul-le-mul_right cd first in
        let s : (bn * cd + 1) * ad ≤ (cn * bd) * ad = mul-le-mul_right ad (omega (arith, second)) in
        omega arith

-- equal fractions
eq_eq : (an ad bn bd cn cd : ℕ) → 0 < bd → an * bd ≡ bn * ad → bn * cd ≡ cn * bd → an * cd ≡ cn * ad
eq_eq an ad bn bd cn cd pb first second =
    ⊎_elim (λ (fine : an * cd ≡ cn * ad). fine)
    (λ h. ⊎_elim (λ (l : an * cd < cn * ad). absurd (less l)) (λ (r : cn * ad < an * cd). absurd (more r)) h)
    (cases_order (an * cd) (cn * ad))
  where
    f : (an * bd) * cd ≡ (bn * ad) * cd
    f = ap (λ n. n * cd) first

    s : (bn * cd) * ad ≡ (cn * bd) * ad
    s = ap (λ n. n * ad) second

    less : an * cd < cn * ad → ⊥
    less l =
        let w : (an * cd + 1) * bd ≤ (cn * ad) * bd = mul-le-mul_right bd (omega (arith, l)) in
        omega (arith, f, s)

    more : cn * ad < an * cd → ⊥
    more l =
        let w : (cn * ad + 1) * bd ≤ (an * cd) * bd = mul-le-mul_right bd (omega (arith, l)) in
        omega (arith, f, s)

pub before_trans : (a b c : Moment) → 0 < a.den → 0 < b.den → 0 < c.den → is_before a b ≡ true → is_before b c ≡ true → is_before a c ≡ true
before_trans a b c pa pb pc x y = is_before_from a c (go (before_is a b x) (before_is b c y))
  where
    go : Before a b → Before b c → Before a c
    go (inl f) (inl s) = inl (lt_lt a.num a.den b.num b.den c.num c.den pa f (omega (arith, s)) pc)
    go (inl f) (inr s) = inl (lt_lt a.num a.den b.num b.den c.num c.den pa f (omega (arith, s.0)) pc)
    go (inr f) (inl s) = inl (le_lt a.num a.den b.num b.den c.num c.den pa (omega (arith, f.0)) s pc)
    go (inr f) (inr s) = inr (eq_eq a.num a.den b.num b.den c.num c.den pb f.0 s.0, omega (arith, f.1, s.1))

pub before_not_back : (a b : Moment) → is_before a b ≡ true → is_before b a ≡ false
before_not_back a b x = false_from_ne_true _ (λ y. go (before_is a b x) (before_is b a y))
  where
    go : Before a b → Before b a → ⊥
    go (inl f) (inl s) = omega (arith, f, s)
    go (inl f) (inr s) = omega (arith, f, s.0)
    go (inr f) (inl s) = omega (arith, f.0, s)
    go (inr f) (inr s) = omega (arith, f.1, s.1)

pub not_before_itself : (a : Moment) → is_before a a ≡ false
not_before_itself a = false_from_ne_true _ (λ y. go (before_is a a y))
  where
    go : Before a a → ⊥
    go (inl f) = omega (arith, f)
    go (inr f) = omega (arith, f.1)

-- of two moments one comes before the other, or they have one fraction and one axis
pub before_either : (a b : Moment) → (is_before a b ≡ true) ⊎ ((is_before b a ≡ true) ⊎ (((a.num * b.den) ≡ (b.num * a.den)) × (a.axis ≡ b.axis)))
before_either a b =
    ⊎_elim
    (λ (e : a.num * b.den ≡ b.num * a.den). ⊎_elim
    (λ (same : a.axis ≡ b.axis). inr (inr (e, same)))
    (λ h. ⊎_elim (λ (l : a.axis < b.axis). inl (is_before_from a b (inr (e, l)))) (λ (r : b.axis < a.axis). inr (inl (is_before_from b a (inr (sym e, r))))) h)
    (cases_order a.axis b.axis))
    (λ h. ⊎_elim (λ (l : a.num * b.den < b.num * a.den). inl (is_before_from a b (inl l))) (λ (r : b.num * a.den < a.num * b.den). inr (inl (is_before_from b a (inl r)))) h)
    (cases_order (a.num * b.den) (b.num * a.den))
