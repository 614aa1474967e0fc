-- A closed reflecting box bars each straight line that leads out of it.
use Rattle.std.proofs.Common.{⊎_elim, ◌≡◌, ℕ, zero, suc, ◌%◌, ◌<◌, ◌≤◌, ◌⊎◌, inl, inr, Bool, true, false, not, cond, List, [], ◌∷◌, length, All, ℤ, pos, ◌-ℤ◌, ◌*ℤ◌, ◌<ℤ◌, int_lt, unsigned_abs, sym, ap, subst, ◌∙◌, arith}
use Rattle.std.specs.List.{list_any}
use Rattle.std.proofs.lemmas.Bool.{and_from, cases_Bool, cases_eq, cases_lt}
use Rattle.std.proofs.lemmas.Int.{ints}
use Rattle.std.proofs.lemmas.List.Folds.{list_any_at}
use Rattle.smol_geom.specs.declared.cuboid.Cuboid.{Cuboid}
use Rattle.smol_geom.specs.declared.place.Place.{Place}
use Rattle.smol_geom.specs.Axes.{IsEven, IsOdd, on_axis}
use Rattle.smol_geom.specs.Line.{IsStrictlyBetween, line_point}
use Rattle.smol_geom.specs.Part.{scaled_way}
use Rattle.smol_geom.specs.Rect.{IsInRange}
use Rattle.smol_geom.proofs.Fractions.{over}
use Rattle.smol_geom.proofs.Integers.{sums, mul_le_ℤ}
use Rattle.smol_geom.proofs.Lists.{all_had, has_contained}
use Rattle.smol_geom.proofs.Ways.{above_low, below_high}
use Rattle.smol_types.specs.declared.draft.Draft.{Draft}
use Rattle.smol_types.specs.Coordinates.{AreCoordinates}
use Rattle.smol_types.specs.Sound.{IsSound}
use Rattle.smol_meaning.specs.declared.way.Response.{Response}
use Rattle.smol_meaning.specs.declared.way.Response.TheVariants.{Reflect}
use Rattle.smol_meaning.specs.Box.{Covers, IsClosed, IsFaceShut, IsInside}
use Rattle.smol_meaning.specs.Folds.{IsPlate, IsSheet}
use Rattle.smol_meaning.specs.Placed.{StandsWithin}
use Rattle.smol_meaning.specs.declared.sheet.Sheet.{Sheet}
use Rattle.smol_meaning.specs.declared.sheet.Sheet.TheVariants.{Rectangle, Plane}
use Rattle.smol_meaning.specs.Plates.{Plate, response_of, sheet_axis, sheet_plane}
use Rattle.smol_meaning.specs.Seen.{plates_of}
use Rattle.smol_meaning.specs.Sight.{bars, is_barred, is_below, line_meets, passes}
use Rattle.smol_meaning.proofs.Bounds.{plane_small}
use Rattle.smol_meaning.proofs.Seeing.{plates_fit}
use Rattle.smol_meaning.proofs.Sights.{meets_from, meets_wall_from}
use Rattle.smol_confined.proofs.First.{IsFirst, meets_first}
use Rattle.smol_confined.proofs.Leaving.{IsWithinBounds, bound_to, ends_between, far_to, less_from, not_less_from, on_bound, passes_bound, room_to, within_bounds}

-- coordinates are odd, and on an axis that isn't in use they are 1
odd_at : (most dims : ℕ) (xs : List ℤ) (axis : ℕ) → axis < length xs → AreCoordinates most dims xs → IsOdd (on_axis xs axis)
odd_at most dims [] axis within are = absurd (omega arith)
odd_at most zero (x ∷ xs) zero within are = let one : unsigned_abs x ≡ 1 = ap unsigned_abs are.0 in omega arith
odd_at most zero (x ∷ xs) (suc axis) within are = odd_at most zero xs axis (omega arith) are.1
odd_at most (suc dims) (x ∷ xs) zero within are = are.0
odd_at most (suc dims) (x ∷ xs) (suc axis) within are = odd_at most dims xs axis (omega arith) are.2

one_at : (most dims : ℕ) (xs : List ℤ) (axis : ℕ) → axis < length xs → dims ≤ axis → AreCoordinates most dims xs → on_axis xs axis ≡ pos 1
one_at most dims [] axis within unused are = absurd (omega arith)
one_at most zero (x ∷ xs) zero within unused are = are.0
one_at most zero (x ∷ xs) (suc axis) within unused are = one_at most zero xs axis (omega arith) (omega arith) are.1
one_at most (suc dims) (x ∷ xs) zero within unused are = absurd (omega arith)
one_at most (suc dims) (x ∷ xs) (suc axis) within unused are = one_at most dims xs axis (omega arith) (omega arith) are.2

module _ (dims most : ℕ) (plates : List Plate) (fit : All (IsPlate dims) plates) (among : ℕ → Bool) (box : Cuboid) (closed : IsClosed dims plates among box) (species : ℕ) (kin : among species ≡ true) (a b : Place) (from : StandsWithin dims most a) (to : StandsWithin dims most b) (inside : IsInside box a) where
  odd_end : (j : ℕ) → j < 3 → IsOdd (on_axis b.0 j)
  odd_end j l = odd_at most dims b.0 j (omega (arith, to.axes)) to.coordinates

  odd_start : (j : ℕ) → j < 3 → IsOdd (on_axis a.0 j)
  odd_start j l = odd_at most dims a.0 j (omega (arith, from.axes)) from.coordinates

  -- how far the line goes on an axis, and how much room there is in the box
  abbrev far : ℕ → ℕ
  far j = far_to (on_axis a.0 j) (on_axis b.0 j)

  abbrev room : ℕ → ℕ
  room j = room_to (on_axis box.low j) (on_axis box.high j) (on_axis a.0 j) (on_axis b.0 j)

  abbrev bound : ℕ → ℤ
  bound j = bound_to (on_axis box.low j) (on_axis box.high j) (on_axis a.0 j) (on_axis b.0 j)

  face_even : (j : ℕ) (plane : ℤ) (upper : Bool) → IsFaceShut plates species box j plane upper → IsEven plane
  face_even j plane upper face =
      let sheet = (all_had (IsPlate dims) plates face.plate (has_contained plates face.plate face.listed) fit).sheet in
      subst (λ z. unsigned_abs z % 2 ≡ 0) face.at_plane (plane_small face.plate.sheet sheet).1

  -- where there is room on an axis the line ends within the box there
  ends_within : (j : ℕ) → j < 3 → far j ≤ room j → (on_axis box.low j <ℤ on_axis b.0 j) × (on_axis b.0 j <ℤ on_axis box.high j)
  ends_within j l enough = ⊎_elim
      (λ (used : j < dims).
      ends_between (on_axis box.low j) (on_axis box.high j) (on_axis a.0 j) (on_axis b.0 j) (inside j l).0 (inside j l).1
      (face_even j (on_axis box.low j) false (closed.lower species kin j used)) (face_even j (on_axis box.high j) true (closed.upper species kin j used)) (odd_end j l) enough)
      (λ (unused : dims ≤ j).
      let same : on_axis a.0 j ≡ on_axis b.0 j =
      one_at most dims a.0 j (omega (arith, from.axes)) unused from.coordinates ∙ sym (one_at most dims b.0 j (omega (arith, to.axes)) unused to.coordinates) in
      subst (λ z. (on_axis box.low j <ℤ z) × (z <ℤ on_axis box.high j)) same (inside j l))
      (cases_lt j dims)

  -- the axis whose bound the line meets first
  module _ (j : ℕ) (is : IsFirst room far 3 j) where
    used : j < dims
    used = ⊎_elim
        (λ (fine : j < dims). fine)
        (λ (unused : dims ≤ j). absurd (no unused))
        (cases_lt j dims)
      where
        still : (u v : ℤ) → u ≡ pos 1 → v ≡ pos 1 → far_to u v ≡ 0
        still u v e f = omega (arith, ints, e, f)

        no : dims ≤ j → ⊥
        no unused =
            let none = still (on_axis a.0 j) (on_axis b.0 j) (one_at most dims a.0 j (omega (arith, is.among, from.axes)) unused from.coordinates)
            (one_at most dims b.0 j (omega (arith, is.among, to.axes)) unused to.coordinates) in
            omega (arith, none, is.short)

    between : IsStrictlyBetween (bound j) (on_axis a.0 j) (on_axis b.0 j)
    between = passes_bound (on_axis box.low j) (on_axis box.high j) (on_axis a.0 j) (on_axis b.0 j) (inside j is.among).0 (inside j is.among).1 is.short

    -- there the line is within the box on each axis, and at the bound on this one
    within : (k : ℕ) → k < 3 → IsWithinBounds (on_axis box.low k) (on_axis box.high k) (on_axis a.0 k) (on_axis b.0 k) (room j) (far j)
    within k l = within_bounds (on_axis box.low k) (on_axis box.high k) (on_axis a.0 k) (on_axis b.0 k) (room j) (far j) (inside k l).0 (inside k l).1 (is.first k l)

    at_bound : bound j *ℤ pos (far j) ≡ scaled_way (on_axis a.0 j) (on_axis b.0 j -ℤ on_axis a.0 j) (over (room j) (far j))
    at_bound = on_bound (on_axis box.low j) (on_axis box.high j) (on_axis a.0 j) (on_axis b.0 j) (inside j is.among).0 (inside j is.among).1

    -- a sheet that holds the whole face there is met
    face_met : (sheet : Sheet) → IsSheet sheet → sheet_axis sheet ≡ j → sheet_plane sheet ≡ bound j → Covers sheet box → line_meets sheet a b ≡ true
    face_met (Plane axis plane) fits across at covers =
        meets_wall_from axis plane a b
        (subst (λ (z : ℤ). IsStrictlyBetween z (on_axis a.0 axis) (on_axis b.0 axis)) (sym at)
        (subst (λ (k : ℕ). IsStrictlyBetween (bound j) (on_axis a.0 k) (on_axis b.0 k)) (sym across) between))
    face_met (Rectangle rect) fits across at covers =
        meets_from rect a b fits.shape
        (odd_start 0 (omega arith), odd_start 1 (omega arith), odd_start 2 (omega arith))
        (odd_end 0 (omega arith), odd_end 1 (omega arith), odd_end 2 (omega arith))
        fits.even
        (over (room j) (far j), omega (arith, is.short), omega (arith, ints), omega (arith, ints, is.short), (on 0 (omega arith), on 1 (omega arith), on 2 (omega arith)))
      where
        low_at : on_axis rect.low j ≡ bound j
        low_at = ap (on_axis rect.low) (sym across) ∙ at

        high_at : on_axis rect.high j ≡ bound j
        high_at = ap (on_axis rect.high) (sym across) ∙ sym fits.shape.flat ∙ at

        on_own : IsInRange rect j (line_point a b (over (room j) (far j)) j)
        on_own =
            let low = ap (λ (z : ℤ). z *ℤ pos (far j)) low_at in
            let high = ap (λ (z : ℤ). z *ℤ pos (far j)) high_at in
            let there = at_bound in
            record {
              low = above_low (on_axis rect.low j) (on_axis a.0 j) (on_axis b.0 j -ℤ on_axis a.0 j) (over (room j) (far j)) (omega (arith, sums, low, there));
              high = below_high (on_axis rect.high j) (on_axis a.0 j) (on_axis b.0 j -ℤ on_axis a.0 j) (over (room j) (far j)) (omega (arith, sums, high, there));
            }

        on_other : (k : ℕ) → k < 3 → (k ≡ j → ⊥) → IsInRange rect k (line_point a b (over (room j) (far j)) k)
        on_other k l other =
            let reach = covers k l (λ e. other (e ∙ across)) in
            let low = mul_le_ℤ (on_axis rect.low k) (on_axis box.low k) (far j) reach.0 in
            let high = mul_le_ℤ (on_axis box.high k) (on_axis rect.high k) (far j) reach.1 in
            let there = within k l in
            record {
              low = above_low (on_axis rect.low k) (on_axis a.0 k) (on_axis b.0 k -ℤ on_axis a.0 k) (over (room j) (far j)) (omega (arith, sums, low, there.above_low));
              high = below_high (on_axis rect.high k) (on_axis a.0 k) (on_axis b.0 k -ℤ on_axis a.0 k) (over (room j) (far j)) (omega (arith, sums, high, there.below_high));
            }

        on : (k : ℕ) → k < 3 → IsInRange rect k (line_point a b (over (room j) (far j)) k)
        on k l = ⊎_elim
            (λ (same : k ≡ j). subst (λ n. IsInRange rect n (line_point a b (over (room j) (far j)) n)) (sym same) on_own)
            (λ (other : k ≡ j → ⊥). on_other k l other)
            (cases_eq k j)

    -- the shut face at the bound bars the line
    face_bars : (plane : ℤ) (upper : Bool) (face : IsFaceShut plates species box j plane upper) → bound j ≡ plane → int_lt (on_axis a.0 j) plane ≡ upper
        → bars species a b face.plate ≡ true
    face_bars plane upper face here side =
        let sheet = (all_had (IsPlate dims) plates face.plate (has_contained plates face.plate face.listed) fit).sheet in
        let below_is : is_below face.plate.sheet a ≡ upper = (λ i. int_lt (on_axis a.0 (face.across i)) (face.at_plane i)) ∙ side in
        let turned : response_of face.plate (is_below face.plate.sheet a) species ≡ Reflect = ap (λ up. response_of face.plate up species) below_is ∙ face.reflects in
        and_from _ _ (face_met face.plate.sheet sheet face.across (face.at_plane ∙ sym here) face.covers)
        (ap (λ (response : Response). not (passes response)) turned)

    -- so some plate does
    barred : list_any (bars species a b) plates ≡ true
    barred = ⊎_elim
        (λ up.
        some (on_axis box.high j) true (closed.upper species kin j used)
        (ap (λ (up : Bool). cond up (on_axis box.high j) (on_axis box.low j)) up) (less_from _ _ (inside j is.among).1))
        (λ down.
        some (on_axis box.low j) false (closed.lower species kin j used)
        (ap (λ (up : Bool). cond up (on_axis box.high j) (on_axis box.low j)) down) (not_less_from _ _ (inside j is.among).0))
        (cases_Bool (int_lt (on_axis a.0 j) (on_axis b.0 j)))
      where
        some : (plane : ℤ) (upper : Bool) → IsFaceShut plates species box j plane upper → bound j ≡ plane → int_lt (on_axis a.0 j) plane ≡ upper → list_any (bars species a b) plates ≡ true
        some plane upper face here side =
            list_any_at (bars species a b) plates face.listed.0 face.plate face.listed.1
            (ap (bars species a b) face.listed.2 ∙ face_bars plane upper face here side)

  -- a line from inside ends inside, or is barred
  pub ends_or_barred : IsInside box b ⊎ (list_any (bars species a b) plates ≡ true)
  ends_or_barred = ⊎_elim (λ all. inl (λ j l. ends_within j l (all j l))) (λ found. inr (barred found.0 found.1)) (meets_first room far 3)

-- what a molecule is not barred from that is inside a box that is closed for its species is inside
pub seen_inside : (draft : Draft) → IsSound draft → (most : ℕ) (among : ℕ → Bool) (box : Cuboid) → IsClosed draft.dims (plates_of draft) among box
    → (species : ℕ) → among species ≡ true → (a b : Place)
    → StandsWithin draft.dims most a → StandsWithin draft.dims most b → IsInside box a → is_barred draft species a b ≡ false → IsInside box b
seen_inside draft sound most among box closed species kin a b from to inside seen =
    ⊎_elim (λ (there : IsInside box b). there) (λ hidden. absurd (no (is_barred draft species a b) hidden seen))
    (ends_or_barred draft.dims most (plates_of draft) (plates_fit draft sound) among box closed species kin a b from to inside)
  where
    no : (test : Bool) → test ≡ true → test ≡ false → ⊥
    no test barred seen = cc
