-- What lines without a fault say of a compartment is sound, and so is the compartment that comes of them.
use Rattle.std.proofs.Common.{◌≡◌, ℕ, zero, suc, ℤ, pos, negsuc, ◌+◌, ◌<◌, ◌≤◌, ◌%◌, ◌≤ℤ◌, ◌+ℤ◌, ◌-ℤ◌, ◌*ℤ◌, ◌==◌, ◌||◌, Bool, true, false, nat_le, nat_lt, List, [], ◌∷◌, ◌++◌, length, Option, None, Some, IfSome, Ok, unsigned_abs, if◌then◌else◌, refl, sym, arith, subst, length-append}
use Rattle.std.specs.Ordering.{int_eq}
use Rattle.std.proofs.lemmas.Bool.Decides.{nat_tests}
use Rattle.std.proofs.lemmas.Int.{ints}
use Rattle.std.proofs.lemmas.List.Elements.{All-nil, All-push, All-weaker}
use Rattle.smol_geom.specs.declared.place.Place.{Place}
use Rattle.smol_text.specs.Reading.{Stated, words_of}
use Rattle.smol_types.specs.declared.compartment.Compartment.{Compartment}
use Rattle.smol_types.specs.declared.fault.Kind.TheVariants.{BadOrder, Missing, TooMany, WrongWordCount}
use Rattle.smol_types.specs.declared.fault.Need.TheVariants.{Point}
use Rattle.smol_types.specs.Compartments.{IsCompartment, IsPoint}
use Rattle.smol_types.specs.Coordinates.{AreCoordinates}
use Rattle.smol_types.specs.Limits.{farthest, most_bounds, most_points}
use Rattle.smol_line.specs.declared.axes.Axes.{Axes}
use Rattle.smol_line.specs.declared.axes.Bounds.{Bounds}
use Rattle.smol_line.specs.Axes.{AreAxes, IsBounded, are_walled, is_walled, needs_dim, needs_walls, read_axes, read_axis}
use Rattle.smol_line.specs.Coordinate.{ticks_within}
use Rattle.smol_line.specs.Length.{micros_in, most_micros}
use Rattle.smol_line.specs.SpeciesWord.{number_in}
use Rattle.smol_line.specs.Words.{word_at}
use Rattle.smol_line.proofs.Between.{settled_by}
use Rattle.smol_line.proofs.Passing.{valued, held, is_there, same_value, both}
use Rattle.smol_line.proofs.Ranges.{decimal_in-within, number_in-within}
use Rattle.smol_blocks.specs.BlocksSound.{AreCompartmentLines}
use Rattle.smol_blocks.specs.Compartment.{CompartmentSaid, bounded, holds, bound_in, compartment_of, end_compartment_in, point_in, point_word, points_given, surfaces_named}
use Rattle.smol_blocks.proofs.SoundValues.{is_below}

-- a coordinate of a point on an axis
record IsPlacedAt (dims axis : ℕ) (x : ℤ) : Type 0 where
  odd : axis < dims → unsigned_abs x % 2 ≡ 1
  size : axis < dims → unsigned_abs x ≤ farthest + 1
  unused : dims ≤ axis → x ≡ pos 1

-- the place half a micro above whole micros is odd
odd_above : (x : ℤ) → unsigned_abs (pos 2 *ℤ x +ℤ pos 1) % 2 ≡ 1
odd_above x = omega (arith, ints)

-- and below
odd_below : (x : ℤ) → unsigned_abs (pos 2 *ℤ x -ℤ pos 1) % 2 ≡ 1
odd_below x = omega (arith, ints)

-- neither is farther than points may be
size_above : (x : ℤ) → negsuc 999999999999 ≤ℤ x → x ≤ℤ pos most_micros → unsigned_abs (pos 2 *ℤ x +ℤ pos 1) ≤ farthest + 1
size_above x low high = omega (arith, ints)

-- and below
size_below : (x : ℤ) → negsuc 999999999999 ≤ℤ x → x ≤ℤ pos most_micros → unsigned_abs (pos 2 *ℤ x -ℤ pos 1) ≤ farthest + 1
size_below x low high = omega (arith, ints)

-- ticks by whether the place is on the high wall
chosen_ticks : (on : Bool) (x : ℤ) → negsuc 999999999999 ≤ℤ x → x ≤ℤ pos most_micros
    → (unsigned_abs (if on then pos 2 *ℤ x -ℤ pos 1 else pos 2 *ℤ x +ℤ pos 1) % 2 ≡ 1) × (unsigned_abs (if on then pos 2 *ℤ x -ℤ pos 1 else pos 2 *ℤ x +ℤ pos 1) ≤ farthest + 1)
chosen_ticks true x low high = (odd_below x, size_below x low high)
chosen_ticks false x low high = (odd_above x, size_above x low high)

-- on an axis with walls
walled_at : (dims axis : ℕ) (bounds : Bounds) (word : List ℕ) (x : ℤ) → axis < dims → point_word bounds word ≡ Ok x → IsPlacedAt dims axis x
walled_at dims axis bounds word x used is =
    let micros = valued (micros_in word) _ x is in
    let size = decimal_in-within 6 (negsuc 999999999999) (pos most_micros) word micros.0 micros.1 in
    let made = chosen_ticks (int_eq micros.0 bounds.high.0) micros.0 size.0 size.1 in
    subst (IsPlacedAt dims axis) (same_value (ticks_within bounds micros.0) x micros.2)
    (record { odd = λ _. made.0; size = λ _. made.1; unused = λ beyond. absurd (omega (arith, used, beyond)) })

-- an axis without walls isn't in use
placed_at : (dims axis : ℕ) (walls : Option Bounds) (line : Stated) (x : ℤ) → is_walled dims axis walls ≡ true → IfSome walls (IsBounded (Some dims) axis) → read_axis point_word (pos 1) 1 axis walls line ≡ Ok x → IsPlacedAt dims axis x
placed_at dims axis None line x walled sound is =
    let open_end : (nat_le dims axis || false) ≡ true = walled in
    let beyond : dims ≤ axis = grind (arith, nat_tests) in
    subst (IsPlacedAt dims axis) (same_value (pos 1) x is)
    (record { odd = λ used. absurd (omega (arith, beyond, used)); size = λ used. absurd (omega (arith, beyond, used)); unused = λ _. refl })
placed_at dims axis (Some bounds) line x walled sound is = walled_at dims axis bounds (word_at line (1 + axis)) x sound.in_use is

-- the coordinates of a point, one by one
three_placed : (dims : ℕ) (x y z : ℤ) → 1 ≤ dims → dims ≤ 3 → IsPlacedAt dims 0 x → IsPlacedAt dims 1 y → IsPlacedAt dims 2 z → AreCoordinates (farthest + 1) dims (x ∷ y ∷ z ∷ [])
three_placed zero x y z least most a b c = absurd (omega (arith, least))
three_placed (suc zero) x y z least most a b c = (a.odd (omega arith), a.size (omega arith), (b.unused (omega arith), (c.unused (omega arith), tt)))
three_placed (suc (suc zero)) x y z least most a b c = (a.odd (omega arith), a.size (omega arith), (b.odd (omega arith), b.size (omega arith), (c.unused (omega arith), tt)))
three_placed (suc (suc (suc zero))) x y z least most a b c = (a.odd (omega arith), a.size (omega arith), (b.odd (omega arith), b.size (omega arith), (c.odd (omega arith), c.size (omega arith), tt)))
three_placed (suc (suc (suc (suc more)))) x y z least most a b c = absurd (omega (arith, most))

-- the axes of a configuration, where this many are in use
pub record AreThese (axes : Axes) (dims : ℕ) : Type 0 where
  pub count : axes.dims ≡ Some dims
  pub least : 1 ≤ dims
  pub most : dims ≤ 3
  pub x : IfSome axes.x (IsBounded (Some dims) 0)
  pub y : IfSome axes.y (IsBounded (Some dims) 1)
  pub z : IfSome axes.z (IsBounded (Some dims) 2)

-- what is known of axes whose count is given
pub these : (axes : Axes) (dims : ℕ) → AreAxes axes → axes.dims ≡ Some dims → AreThese axes dims
these axes dims sound given =
    let range = subst (λ (count : Option ℕ). IfSome count (λ dims. (1 ≤ dims) × (dims ≤ 3))) given sound.dims in
    record {
      count = given;
      least = range.0;
      most = range.1;
      x = subst (λ (count : Option ℕ). IfSome axes.x (IsBounded count 0)) given sound.x;
      y = subst (λ (count : Option ℕ). IfSome axes.y (IsBounded count 1)) given sound.y;
      z = subst (λ (count : Option ℕ). IfSome axes.z (IsBounded count 2)) given sound.z;
    }

-- the count that a statement needs is the one that is given
pub same_dims : (axes : Axes) (dims found : ℕ) → axes.dims ≡ Some dims → needs_dim axes ≡ Ok found → dims ≡ found
same_dims axes dims found given is =
    let there = is_there axes.dims BadOrder found is in cc

-- and each of the axes has walls
walls_there : (axes : Axes) (dims found : ℕ) → axes.dims ≡ Some dims → needs_walls axes ≡ Ok found → (dims ≡ found) × (are_walled dims axes ≡ true)
walls_there axes dims found given is =
    let settled = settled_by axes found is in
    let there = settled.0 in
    let same : dims ≡ found = cc in
    (same, subst (λ (count : ℕ). are_walled count axes ≡ true) (sym same) settled.1)

-- the coordinates of a line
at_sound : (axes : Axes) (dims : ℕ) (line : Stated) (at : List ℤ) → AreThese axes dims → are_walled dims axes ≡ true → read_axes point_word (pos 1) 1 axes line ≡ Ok at → IsPoint dims (record { 0 = at })
unfolding read_axes
at_sound axes dims line at sound walled is =
    let x = valued (read_axis point_word (pos 1) 1 0 axes.x line) _ at is in
    let y = valued (read_axis point_word (pos 1) 1 1 axes.y line) _ at x.2 in
    let z = valued (read_axis point_word (pos 1) 1 2 axes.z line) _ at y.2 in
    let third = both _ (is_walled dims 2 axes.z) walled in
    let second = both (is_walled dims 0 axes.x) (is_walled dims 1 axes.y) third.0 in
    let a = placed_at dims 0 axes.x line x.0 second.0 sound.x x.1 in
    let b = placed_at dims 1 axes.y line y.0 second.1 sound.y y.1 in
    let c = placed_at dims 2 axes.z line z.0 third.1 sound.z z.1 in
    subst (λ (at : List ℤ). IsPoint dims (record { 0 = at })) (same_value (x.0 ∷ y.0 ∷ z.0 ∷ []) at z.2)
    (record { axes = refl; coordinates = three_placed dims x.0 y.0 z.0 sound.least sound.most a b c })

-- what is known of the point of a line
record IsPointOf (dims : ℕ) (before : List CompartmentSaid) (point : Place) : Type 0 where
  sound : IsPoint dims point
  room : length (points_given before) < most_points

-- and it is so of the point of every line without a fault
point_is : (axes : Axes) (dims : ℕ) (before : List CompartmentSaid) (line : Stated) (point : Place) → AreThese axes dims → point_in axes before line ≡ Ok point → IsPointOf dims before point
unfolding point_in
point_is axes dims before line point sound is =
    let count = valued (needs_walls axes) _ point is in
    let words = held _ WrongWordCount [] _ point count.2 in
    let at = valued (read_axes point_word (pos 1) 1 axes line) _ point words.1 in
    let room = held (nat_lt (length (points_given before)) most_points) TooMany [] _ point at.2 in
    let walls = walls_there axes dims count.0 sound.count count.1 in
    subst (IsPointOf dims before) (same_value (record { 0 = at.0 }) point room.1)
    (record { sound = at_sound axes dims line at.0 sound walls.1 at.1; room = is_below (length (points_given before)) most_points room.0 })

-- no line is said yet
pub no_compartment_lines : (dims surface_count : ℕ) → AreCompartmentLines dims surface_count []
no_compartment_lines dims surface_count = record {
  bound_count = omega arith;
  bounds = All-nil (λ (surface : ℕ). surface < surface_count);
  point_count = omega arith;
  points = All-nil (IsPoint dims);
}

-- a point more
pub point_keeps : (axes : Axes) (dims surface_count : ℕ) (before : List CompartmentSaid) (line : Stated) (point : Place) → AreThese axes dims → point_in axes before line ≡ Ok point → AreCompartmentLines dims surface_count before → AreCompartmentLines dims surface_count (holds point ∷ before)
point_keeps axes dims surface_count before line point these_are is sound =
    let new = point_is axes dims before line point these_are is in
    let room = new.room in
    let more : length (points_given before ++ point ∷ []) ≡ length (points_given before) + 1 = length-append (points_given before) (point ∷ []) in
    record {
      bound_count = sound.bound_count;
      bounds = sound.bounds;
      point_count = omega (arith, room, more);
      points = All-push (IsPoint dims) (points_given before) point sound.points new.sound;
    }

-- a surface more
pub bound_keeps : (dims surface_count : ℕ) (surfaces : List (List ℕ)) (before : List CompartmentSaid) (line : Stated) (surface : ℕ) → length surfaces ≡ surface_count → bound_in surfaces before line ≡ Ok surface → AreCompartmentLines dims surface_count before → AreCompartmentLines dims surface_count (bounded surface ∷ before)
unfolding bound_in
bound_keeps dims surface_count surfaces before line surface many is sound =
    let words = held (length (words_of line) == 2) WrongWordCount [] _ surface is in
    let number = valued (number_in surfaces (word_at line 1)) _ surface words.1 in
    let room = held (nat_lt (length (surfaces_named before)) most_bounds) TooMany [] _ surface number.2 in
    let fits : length (surfaces_named before) < most_bounds = is_below (length (surfaces_named before)) most_bounds room.0 in
    let more : length (surfaces_named before ++ surface ∷ []) ≡ length (surfaces_named before) + 1 = length-append (surfaces_named before) (surface ∷ []) in
    let below : surface < surface_count = subst (λ (surface : ℕ). surface < surface_count) (same_value number.0 surface room.1)
    (subst (λ (count : ℕ). number.0 < count) many (number_in-within surfaces (word_at line 1) number.0 number.1)) in
    record {
      bound_count = omega (arith, fits, more);
      bounds = All-push (λ (surface : ℕ). surface < surface_count) (surfaces_named before) surface sound.bounds below;
      point_count = sound.point_count;
      points = sound.points;
    }

-- the compartment of the block
pub compartment_sound : (dims surface_count : ℕ) (before : List CompartmentSaid) (line : Stated) (compartment : Compartment) → end_compartment_in before line ≡ Ok compartment → AreCompartmentLines dims surface_count before → IsCompartment dims surface_count compartment
unfolding end_compartment_in
compartment_sound dims surface_count before line compartment is sound =
    let words = held (length (words_of line) == 1) WrongWordCount _ _ compartment is in
    let some = held (nat_lt 0 (length (points_given before))) (Missing Point) [] _ compartment words.1 in
    subst (IsCompartment dims surface_count) (same_value (compartment_of before) compartment some.1)
    (record {
      bound_count = sound.bound_count;
      bounds = sound.bounds;
      point_count = sound.point_count;
      points = sound.points;
    })

-- more surfaces leave a compartment sound
pub compartment_wider : (dims surface_count more : ℕ) → surface_count ≤ more → (compartment : Compartment) → IsCompartment dims surface_count compartment → IsCompartment dims more compartment
compartment_wider dims surface_count more fits compartment sound = record {
  bound_count = sound.bound_count;
  bounds = All-weaker (λ (surface : ℕ). surface < surface_count) (λ (surface : ℕ). surface < more) (λ surface below. omega (arith, fits, below)) compartment.surfaces sound.bounds;
  point_count = sound.point_count;
  points = sound.points;
}
