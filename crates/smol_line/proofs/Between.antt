-- What a statement knows that needs walls, and that coordinates which a line gives lie between them.
use Rattle.std.proofs.Common.{◌≡◌, ◌⊎◌, inl, inr, ◌+ℤ◌, ◌-ℤ◌, ◌<◌, ◌&&◌, ◌||◌, Bool, true, false, ℕ, ℤ, pos, ◌<ℤ◌, ◌≤ℤ◌, ◌*ℤ◌, nat_le, int_le, List, None, Some, Ok, Err, arith, refl, sym, ap, ◌∙◌, subst, if◌then◌else◌}
use Rattle.std.specs.Ordering.{int_eq}
use Rattle.std.proofs.lemmas.Bool.Decides.{nat_tests, Decides-int_eq}
use Rattle.std.proofs.lemmas.Int.{ints}
use Rattle.smol_types.specs.declared.fault.Kind.TheVariants.{BadOrder, OutsideWalls}
use Rattle.smol_types.specs.declared.wall.Wall.{Wall}
use Rattle.smol_types.specs.Walls.{LiesBetween}
use Rattle.smol_line.specs.declared.axes.Axes.{Axes}
use Rattle.smol_line.specs.declared.axes.Bounds.{Bounds}
use Rattle.smol_line.specs.Axes.{are_walled, is_walled, needs_dim, needs_walls}
use Rattle.smol_line.specs.Coordinate.{coordinate_in, inside, ticks_within}
use Rattle.smol_line.specs.Length.{micros_in}
use Rattle.smol_line.proofs.Passing.{both, is_there, valued}

-- a statement that needs walls stands behind them
pub settled_by : (known : Axes) (dims : ℕ) → needs_walls known ≡ Ok dims → (known.dims ≡ Some dims) × (are_walled dims known ≡ true)
settled_by known dims is =
    let found = valued (needs_dim known) (λ dims. if are_walled dims known then Ok dims else Err BadOrder) dims is in
    let has = is_there known.dims BadOrder found.0 found.1 in
    let walled = walled_when (are_walled found.0 known) found.0 dims found.2 in
    (has ∙ ap (λ n. Some n) walled.1, subst (λ n. are_walled n known ≡ true) walled.1 walled.0)
  where
    walled_when : (test : Bool) (n found : ℕ) → (if test then Ok n else Err BadOrder) ≡ Ok found → (test ≡ true) × (n ≡ found)
    walled_when true n found is = (refl, cc)
    walled_when false n found is = absurd cc

-- an axis without walls isn't in use
pub unwalled : (dims axis : ℕ) → axis < dims → is_walled dims axis None ≡ true → ⊥
unwalled dims axis used walled = let passed : (nat_le dims axis || false) ≡ true = walled in grind (arith, nat_tests)

-- the two walls of an axis
abbrev pub lower_wall : ℕ → Bounds → Wall
lower_wall axis bounds = record { axis = axis; plane = pos 2 *ℤ bounds.low.0; upper = false; letter = bounds.letter }

abbrev pub upper_wall : ℕ → Bounds → Wall
upper_wall axis bounds = record { axis = axis; plane = pos 2 *ℤ bounds.high.0; upper = true; letter = bounds.letter }

ticks_between : (axis : ℕ) (bounds : Bounds) (x : ℤ) → bounds.low.0 <ℤ bounds.high.0 → bounds.low.0 ≤ℤ x → x ≤ℤ bounds.high.0 → LiesBetween (lower_wall axis bounds) (upper_wall axis bounds) (ticks_within bounds x)
ticks_between axis bounds x ordered above below =
    elim (ticks_cases bounds x) [
      | inl top ↦
          let at_top = top.0 in
          subst (λ (t : ℤ). LiesBetween (lower_wall axis bounds) (upper_wall axis bounds) t) (sym top.1) (record { odd = omega (arith, ints); above = omega (arith, ints); below = omega (arith, ints) })
      | inr inner ↦
          let beside = inner.0 in
          subst (λ (t : ℤ). LiesBetween (lower_wall axis bounds) (upper_wall axis bounds) t) (sym inner.1) (record { odd = omega (arith, ints); above = omega (arith, ints); below = omega (arith, ints) })
    ]
  where
    ticks_cases : (bounds : Bounds) (x : ℤ) → ((x ≡ bounds.high.0) × (ticks_within bounds x ≡ pos 2 *ℤ x -ℤ pos 1)) ⊎ ((x ≡ bounds.high.0 → ⊥) × (ticks_within bounds x ≡ pos 2 *ℤ x +ℤ pos 1))
    ticks_cases bounds x = by (int_eq x bounds.high.0) refl
      where
        by : (test : Bool) → int_eq x bounds.high.0 ≡ test → ((x ≡ bounds.high.0) × (ticks_within bounds x ≡ pos 2 *ℤ x -ℤ pos 1)) ⊎ ((x ≡ bounds.high.0 → ⊥) × (ticks_within bounds x ≡ pos 2 *ℤ x +ℤ pos 1))
        by true is = inl ((Decides-int_eq x bounds.high.0).0 is, ap (λ b. if b then pos 2 *ℤ x -ℤ pos 1 else pos 2 *ℤ x +ℤ pos 1) is)
        by false is = inr (λ same. let yes = (Decides-int_eq x bounds.high.0).1 same in let no : true ≡ false = sym yes ∙ is in cc, ap (λ b. if b then pos 2 *ℤ x -ℤ pos 1 else pos 2 *ℤ x +ℤ pos 1) is)

inside_between : (axis : ℕ) (bounds : Bounds) (x found : ℤ) (test : Bool) → bounds.low.0 <ℤ bounds.high.0 → (int_le bounds.low.0 x && int_le x bounds.high.0) ≡ test → (if test then Ok (ticks_within bounds x) else Err OutsideWalls) ≡ Ok found → LiesBetween (lower_wall axis bounds) (upper_wall axis bounds) found
inside_between axis bounds x found true ordered tests is =
    let inside = both (int_le bounds.low.0 x) (int_le x bounds.high.0) tests in
    let low = inside.0 in
    let high = inside.1 in
    let same : ticks_within bounds x ≡ found = cc in
    subst (LiesBetween (lower_wall axis bounds) (upper_wall axis bounds)) same (ticks_between axis bounds x ordered (grind (arith, nat_tests)) (grind (arith, nat_tests)))
inside_between axis bounds x found false ordered tests is = absurd cc

-- a coordinate between two walls lies there
pub coordinate_lies : (axis : ℕ) (bounds : Bounds) (word : List ℕ) (found : ℤ) → bounds.low.0 <ℤ bounds.high.0 → coordinate_in bounds word ≡ Ok found → LiesBetween (lower_wall axis bounds) (upper_wall axis bounds) found
coordinate_lies axis bounds word found ordered is =
    let x = valued (micros_in word) (inside bounds) found is in
    inside_between axis bounds x.0 found (int_le bounds.low.0 x.0 && int_le x.0 bounds.high.0) ordered refl x.2
