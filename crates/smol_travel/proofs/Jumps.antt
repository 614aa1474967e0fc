-- Jumps of plates aren't long.
use Rattle.std.proofs.Common.{⊎_elim, ◌≡◌, ℕ, ◌^◌, ◌<◌, ◌≤◌, List, sym, subst, arith, ℤ, pos, ◌+ℤ◌, unsigned_abs}
use Rattle.std.specs.Prelude.{All}
use Rattle.std.proofs.lemmas.Bool.{cases_eq}
use Rattle.std.proofs.lemmas.Int.{ints}
use Rattle.smol_geom.specs.declared.place.Place.{Place}
use Rattle.smol_geom.specs.declared.place.Step3.{Step3}
use Rattle.smol_geom.specs.declared.moment.Moment.{Moment}
use Rattle.smol_geom.specs.declared.fold.Fold.{Fold}
use Rattle.smol_geom.specs.Axes.{on_axis}
use Rattle.smol_geom.proofs.EachAxis.{at_axis}
use Rattle.smol_geom.proofs.Lists.{all_had}
use Rattle.smol_types.specs.Limits.{farthest}
use Rattle.smol_meaning.specs.declared.way.Effect.{Effect}
use Rattle.smol_meaning.specs.declared.way.Response.{Response}
use Rattle.smol_meaning.specs.declared.way.Response.TheVariants.{Reflect, Absorb, Jump, Pass}
use Rattle.smol_meaning.specs.Folds.{IsSheet, IsPlate, IsResponse, IsJump}
use Rattle.smol_meaning.specs.declared.sheet.Sheet.{Sheet}
use Rattle.smol_meaning.specs.declared.sheet.Sheet.TheVariants.{Rectangle, Plane}
use Rattle.smol_meaning.specs.Plates.{Plate, goes_up}
use Rattle.smol_meaning.specs.Way.{deciding_at}
use Rattle.smol_meaning.proofs.Bounds.{Decides, decided_by, unmet}
use Rattle.smol_travel.specs.Meetings.{IsSmallJump}

short : (low b : ℤ) → unsigned_abs low ≤ farthest → unsigned_abs (low +ℤ b) ≤ farthest → unsigned_abs b ≤ 2 ^ 42
short low b small there = omega (arith, ints, small, there)

none : (b : ℤ) → b ≡ pos 0 → unsigned_abs b ≤ 2 ^ 42
none b e = omega (arith, ints, e)

jump_short : (dims : ℕ) (sheet : Sheet) (by : List ℤ) → IsSheet sheet → IsJump dims sheet by → (j : ℕ) → j < 3 → unsigned_abs (on_axis by j) ≤ 2 ^ 42
jump_short dims (Rectangle rect) by is jump j l =
    let lands = at_axis (λ k. (unsigned_abs (on_axis rect.low k +ℤ on_axis by k) ≤ farthest) × (unsigned_abs (on_axis rect.high k +ℤ on_axis by k) ≤ farthest)) j l jump.lands in
    short (on_axis rect.low j) (on_axis by j) (at_axis (λ k. unsigned_abs (on_axis rect.low k) ≤ farthest) j l is.low) lands.0
jump_short dims (Plane axis plane) by is jump j l = ⊎_elim
    (λ (same : j ≡ axis). short plane (on_axis by j) is.size (subst (λ k. unsigned_abs (plane +ℤ on_axis by k) ≤ farthest) (sym same) jump.lands.0))
    (λ (other : j ≡ axis → ⊥). none (on_axis by j) (at_axis (λ k. (k ≡ axis → ⊥) → on_axis by k ≡ pos 0) j l jump.lands.1 other))
    (cases_eq j axis)

response_short : (dims : ℕ) (sheet : Sheet) (response : Response) → IsSheet sheet → IsResponse dims sheet response → IsSmallJump response
response_short dims sheet Reflect is fits = tt
response_short dims sheet (Absorb n) is fits = tt
response_short dims sheet (Jump by up) is fits =
    (jump_short dims sheet by is fits 0 (omega arith), jump_short dims sheet by is fits 1 (omega arith), jump_short dims sheet by is fits 2 (omega arith))
response_short dims sheet Pass is fits = tt

-- nor is that of what decides at a moment
pub decides_short : (dims : ℕ) (plates : List Plate) (from : Place) (by : Step3) (f : Fold) (m : Moment) (species : ℕ) → All (IsPlate dims) plates
    → IsSmallJump (deciding_at plates from by f m species).response
decides_short dims plates from by f m species all = ⊎_elim
    (λ (e : effect ≡ unmet species). subst (λ (one : Effect). IsSmallJump one.response) (sym e) tt)
    (λ (d : Decides plates from by f m species effect).
    let fit = all_had (IsPlate dims) plates d.plate d.listed all in
    subst (λ (one : Effect). IsSmallJump one.response) d.is (response_short dims d.plate.sheet _ fit.sheet (fit.responses (goes_up by f m.axis) species)))
    (decided_by plates from by f m species)
  where
    effect : Effect
    effect = deciding_at plates from by f m species
