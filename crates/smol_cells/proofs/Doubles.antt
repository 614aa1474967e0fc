-- The least double of an edge that gives few boxes.
use Rattle.std.proofs.Common.{◌≡◌, ◌∙◌, ℕ, suc, ◌*◌, ◌/◌, ◌^◌, ◌<◌, ◌≤◌, unsigned_abs, refl, sym, ap, subst, ⊎_elim, arith}
use Rattle.std.proofs.Math.Nat.{div-eq_of_lt, mul_assoc, pow-suc}
use Rattle.std.proofs.lemmas.Bool.{cases_eq, cases_lt}
use Rattle.std.proofs.lemmas.Int.{ints}
use Rattle.smol_geom.specs.Axes.{EachAxis, IsWithin, on_axis}
use Rattle.smol_geom.specs.declared.cuboid.Cuboid.{Cuboid}
use Rattle.smol_cells.specs.Bounds.{IsLeastDouble, boxes_in, boxes_on, extent, most_boxes}

-- the edge is a double of the wanted one, and all before it give too many boxes
pub record IsDouble (bounds : Cuboid) (wanted edge : ℕ) : Type 0 where
  pub times : ℕ
  pub is : edge ≡ wanted * 2 ^ times
  pub least : (fewer : ℕ) → fewer < times → most_boxes < boxes_in bounds (wanted * 2 ^ fewer)

one_box : (bounds : Cuboid) (edge axis : ℕ) → extent bounds axis < edge → boxes_on bounds edge axis ≡ 1
one_box bounds edge axis long = let none : extent bounds axis / edge ≡ 0 = div-eq_of_lt long in omega arith

-- an edge that is longer than the bounds gives one box
pub few_of_long : (bounds : Cuboid) (edge : ℕ) → EachAxis (λ axis. extent bounds axis < edge) → boxes_in bounds edge ≡ 1
few_of_long bounds edge long =
    rw (one_box bounds edge 2 long.2, one_box bounds edge 1 long.1, one_box bounds edge 0 long.0) refl

extent_short : (bounds : Cuboid) (axis : ℕ) → unsigned_abs (on_axis bounds.low axis) ≤ 2 ^ 58 → unsigned_abs (on_axis bounds.high axis) ≤ 2 ^ 58
    → extent bounds axis ≤ 2 ^ 59
extent_short bounds axis low high = omega (arith, ints)

-- an edge that gives too many boxes is short
pub short_of_many : (bounds : Cuboid) (edge : ℕ) → IsWithin (2 ^ 58) bounds.low → IsWithin (2 ^ 58) bounds.high
    → most_boxes < boxes_in bounds edge → edge ≤ 2 ^ 59
short_of_many bounds edge low high many = ⊎_elim
    (λ (long : 2 ^ 59 < edge).
    let x = extent_short bounds 0 low.0 high.0 in
    let y = extent_short bounds 1 low.1 high.1 in
    let z = extent_short bounds 2 low.2 high.2 in
    let one = few_of_long bounds edge (omega (arith, x, long), omega (arith, y, long), omega (arith, z, long)) in
    absurd (omega (arith, one, many)))
    (λ (short : edge ≤ 2 ^ 59). short)
    (cases_lt (2 ^ 59) edge)

-- the wanted edge is the first of its doubles
pub double_first : (bounds : Cuboid) (wanted : ℕ) → IsDouble bounds wanted wanted
double_first bounds wanted = record { times = 0; is = omega arith; least = λ fewer below. absurd (omega (arith, below)) }

-- where a double gives too many boxes, the next one follows
pub double_more : (bounds : Cuboid) (wanted edge : ℕ) → IsDouble bounds wanted edge → most_boxes < boxes_in bounds edge → IsDouble bounds wanted (edge * 2)
double_more bounds wanted edge double many = record {
  times = suc double.times;
  is = ap (λ n. n * 2) double.is ∙ mul_assoc wanted (2 ^ double.times) 2 ∙ ap (λ n. wanted * n) (sym (pow-suc 2 double.times));
  least = λ fewer below. ⊎_elim
      (λ (e : fewer ≡ double.times). subst (λ n. most_boxes < boxes_in bounds n) (double.is ∙ ap (λ n. wanted * 2 ^ n) (sym e)) many)
      (λ (other : fewer ≡ double.times → ⊥). double.least fewer (omega (arith, below)))
      (cases_eq fewer double.times);
}

-- the first double that gives few boxes is the least
pub least_of_double : (bounds : Cuboid) (wanted edge : ℕ) → IsDouble bounds wanted edge → boxes_in bounds edge ≤ most_boxes → IsLeastDouble bounds wanted edge
least_of_double bounds wanted edge double few = record { times = double.times; is = double.is; few = few; least = double.least }
