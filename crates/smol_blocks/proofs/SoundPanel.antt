-- The rectangle that a line without a fault gives is one that a panel may have.
use Rattle.std.proofs.Common.{◌≡◌, ℕ, zero, suc, ℤ, pos, negsuc, ◌+◌, ◌<◌, ◌≤◌, ◌≤ℤ◌, ◌<ℤ◌, ◌+ℤ◌, ◌==◌, Bool, true, false, nat_le, nat_lt, List, [], ◌∷◌, length, Option, None, Some, Result, Ok, Err, unsigned_abs, if◌then◌else◌, refl, sym, arith, subst}
use Rattle.std.proofs.lemmas.Bool.Decides.{nat_tests}
use Rattle.std.proofs.lemmas.Int.{ints}
use Rattle.smol_geom.specs.declared.rect.Rect.{Rect}
use Rattle.smol_geom.specs.Axes.{on_axis, IsEven}
use Rattle.smol_text.specs.Reading.{Stated, words_of}
use Rattle.smol_types.specs.declared.fault.Kind.{Kind}
use Rattle.smol_types.specs.declared.fault.Kind.TheVariants.{NotInProfile, OutOfRange, TooMany, WrongWordCount}
use Rattle.smol_types.specs.Limits.{farthest, most_panels}
use Rattle.smol_types.specs.Panels.{IsEdge}
use Rattle.smol_line.specs.Length.{micros_in, most_micros}
use Rattle.smol_line.specs.Words.{word_at}
use Rattle.smol_line.proofs.Passing.{valued, held, no_value, same_value}
use Rattle.smol_line.proofs.Ranges.{decimal_in-within}
use Rattle.smol_blocks.specs.declared.panel.Facing.{Facing}
use Rattle.smol_blocks.specs.BlocksSound.{IsPanelRectIn}
use Rattle.smol_blocks.specs.Panel.{Named, corner_in, edge_in, edge_place, extent_in, facing_in, facing_of, is_shape, name_in, panel_in, rect_in, shape_in, sign_of, ticks_of}
use Rattle.smol_blocks.proofs.SoundValues.{is_below}

-- the ends of a rectangle on an axis, by its corner and by how far it reaches
record IsReach (dims across axis : ℕ) (corner extent : ℤ) : Type 0 where
  low_size : unsigned_abs (ticks_of corner) ≤ farthest
  high_size : unsigned_abs (ticks_of (corner +ℤ extent)) ≤ farthest
  low_even : IsEven (ticks_of corner)
  high_even : IsEven (ticks_of (corner +ℤ extent))
  low_unused : dims ≤ axis → ticks_of corner ≡ pos 0
  high_unused : dims ≤ axis → ticks_of (corner +ℤ extent) ≡ pos 2
  ordered : ticks_of corner ≤ℤ ticks_of (corner +ℤ extent)
  flat : across ≡ axis → ticks_of corner ≡ ticks_of (corner +ℤ extent)
  edge : IsEdge (axis == across) (ticks_of corner) (ticks_of (corner +ℤ extent))

-- ticks of a place of whole micros are even
ticks_even : (x : ℤ) → IsEven (ticks_of x)
ticks_even x = omega (arith, ints)

-- and reach no farther than planes may
ticks_size : (x : ℤ) → negsuc 999999999999 ≤ℤ x → x ≤ℤ pos most_micros → unsigned_abs (ticks_of x) ≤ farthest
ticks_size x low high = omega (arith, ints)

-- a low end below a high end
edge_of : (flat : Bool) (low high : ℤ) → low <ℤ high → IsEdge flat low high
edge_of true low high below = tt
edge_of false low high below = below

-- on an axis in use
used_reach : (dims across axis : ℕ) (corner extent : ℤ) → axis < dims → negsuc 999999999999 ≤ℤ corner → pos 0 ≤ℤ extent
    → (corner +ℤ extent) ≤ℤ pos most_micros → (across ≡ axis → extent ≡ pos 0)
    → IsEdge (axis == across) (ticks_of corner) (ticks_of (corner +ℤ extent))
    → IsReach dims across axis corner extent
used_reach dims across axis corner extent used low grows high flat long = record {
  low_size = ticks_size corner low (omega (arith, ints));
  high_size = ticks_size (corner +ℤ extent) (omega (arith, ints)) high;
  low_even = ticks_even corner;
  high_even = ticks_even (corner +ℤ extent);
  low_unused = λ beyond. absurd (omega (arith, used, beyond));
  high_unused = λ beyond. absurd (omega (arith, used, beyond));
  ordered = omega (arith, ints);
  flat = λ same. let none = flat same in omega (arith, ints);
  edge = long;
}

-- on an axis that isn't in use
unused_reach : (dims across axis : ℕ) (corner extent : ℤ) → across < dims → dims ≤ axis → pos 0 ≡ corner → pos 1 ≡ extent → IsReach dims across axis corner extent
unused_reach dims across axis corner extent within beyond zero_is one_is =
    subst (λ (extent : ℤ). IsReach dims across axis corner extent) one_is
    (subst (λ (corner : ℤ). IsReach dims across axis corner (pos 1)) zero_is
    (record {
      low_size = omega arith;
      high_size = omega arith;
      low_even = refl;
      high_even = refl;
      low_unused = λ _. refl;
      high_unused = λ _. refl;
      ordered = omega (arith, ints);
      flat = λ same. absurd (omega (arith, within, beyond, same));
      edge = edge_of (axis == across) _ _ (omega (arith, ints));
    }))

-- on any axis, by whether it is in use and whether the rectangle lies across it
chosen_reach : (used flat : Bool) (dims across axis : ℕ) (word edge : List ℕ) (corner extent : ℤ) → used ≡ nat_lt axis dims → flat ≡ (axis == across) → across < dims
    → (if used then micros_in word else Ok (pos 0)) ≡ Ok corner → (if used then (if flat then Ok (pos 0) else edge_in corner edge) else Ok (pos 1)) ≡ Ok extent
    → IsReach dims across axis corner extent
chosen_reach true true dims across axis word edge corner extent used flat_is within at reach =
    let size = decimal_in-within 6 (negsuc 999999999999) (pos most_micros) word corner at in
    let low = size.0 in
    let high = size.1 in
    let none : pos 0 ≡ extent = same_value (pos 0) extent reach in
    used_reach dims across axis corner extent (grind (arith, nat_tests)) low (omega (arith, ints)) (omega (arith, ints)) (λ _. sym none)
    (subst (λ (flat : Bool). IsEdge flat (ticks_of corner) (ticks_of (corner +ℤ extent))) flat_is tt)
chosen_reach true false dims across axis word edge corner extent used flat_is within at reach =
    let size = decimal_in-within 6 (negsuc 999999999999) (pos most_micros) word corner at in
    let long = decimal_in-within 6 (pos 1) _ edge extent reach in
    let low = size.0 in
    let least = long.0 in
    let most = long.1 in
    used_reach dims across axis corner extent (grind (arith, nat_tests)) low (omega (arith, ints)) (omega (arith, ints)) (λ same. absurd (grind (arith, nat_tests)))
    (subst (λ (flat : Bool). IsEdge flat (ticks_of corner) (ticks_of (corner +ℤ extent))) flat_is (omega (arith, ints)))
chosen_reach false flat dims across axis word edge corner extent used flat_is within at reach =
    unused_reach dims across axis corner extent within (grind (arith, nat_tests)) (same_value (pos 0) corner at) (same_value (pos 1) extent reach)

-- and by the words of a line
reach_in : (dims across axis : ℕ) (line : Stated) (corner extent : ℤ) → across < dims → corner_in dims axis line ≡ Ok corner → extent_in dims across axis corner line ≡ Ok extent → IsReach dims across axis corner extent
reach_in dims across axis line corner extent within at reach =
    chosen_reach (nat_lt axis dims) (axis == across) dims across axis (word_at line (3 + axis)) (word_at line (edge_place dims across axis)) corner extent refl refl within at reach

-- equal numbers on the one axis that a rectangle lies across
flat_at : (across : ℕ) (a b c d e f : ℤ) → across < 3 → (across ≡ 0 → a ≡ d) → (across ≡ 1 → b ≡ e) → (across ≡ 2 → c ≡ f) → on_axis (a ∷ b ∷ c ∷ []) across ≡ on_axis (d ∷ e ∷ f ∷ []) across
flat_at zero a b c d e f within x y z = x refl
flat_at (suc zero) a b c d e f within x y z = y refl
flat_at (suc (suc zero)) a b c d e f within x y z = z refl
flat_at (suc (suc (suc across))) a b c d e f within x y z = absurd (omega (arith, within))

-- the rectangle of a line
pub rect_sound : (dims across : ℕ) (line : Stated) (rect : Rect) → dims ≤ 3 → across < dims → rect_in dims across line ≡ Ok rect → IsPanelRectIn dims rect
unfolding rect_in
rect_sound dims across line rect few within is =
    let x = valued (corner_in dims 0 line) _ rect is in
    let y = valued (corner_in dims 1 line) _ rect x.2 in
    let z = valued (corner_in dims 2 line) _ rect y.2 in
    let a = valued (extent_in dims across 0 x.0 line) _ rect z.2 in
    let b = valued (extent_in dims across 1 y.0 line) _ rect a.2 in
    let c = valued (extent_in dims across 2 z.0 line) _ rect b.2 in
    let p = reach_in dims across 0 line x.0 a.0 within x.1 a.1 in
    let q = reach_in dims across 1 line y.0 b.0 within y.1 b.1 in
    let r = reach_in dims across 2 line z.0 c.0 within z.1 c.1 in
    let made : Rect = record {
      axis = across;
      low = ticks_of x.0 ∷ ticks_of y.0 ∷ ticks_of z.0 ∷ [];
      high = ticks_of (x.0 +ℤ a.0) ∷ ticks_of (y.0 +ℤ b.0) ∷ ticks_of (z.0 +ℤ c.0) ∷ [];
    } in
    let below : across < 3 = omega (arith, few, within) in
    subst (IsPanelRectIn dims) (same_value made rect c.2)
    (record {
      rect_is = record {
        axis = below;
        flat = flat_at across _ _ _ _ _ _ below p.flat q.flat r.flat;
        ordered = (p.ordered, q.ordered, r.ordered);
      };
      across = within;
      edges = (p.edge, q.edge, r.edge);
      low_count = refl;
      high_count = refl;
      low_size = (p.low_size, q.low_size, r.low_size);
      high_size = (p.high_size, q.high_size, r.high_size);
      low_even = (p.low_even, q.low_even, r.low_even);
      high_even = (p.high_even, q.high_even, r.high_even);
      low_unused = (p.low_unused, q.low_unused, r.low_unused);
      high_unused = (p.high_unused, q.high_unused, r.high_unused);
    })

-- the axis behind a sign, by the test that it is in use
chosen_facing : (test : Bool) (dims axis : ℕ) (greater : Bool) (facing : Facing) → test ≡ nat_lt axis dims → (if test then Ok (record { axis = axis; greater = greater }) else Err OutOfRange) ≡ Ok facing → facing.axis < dims
chosen_facing true dims axis greater facing test is =
    let below : axis < dims = grind (arith, nat_tests) in
    subst (λ (facing : Facing). facing.axis < dims) (same_value (record { axis = axis; greater = greater }) facing is) below
chosen_facing false dims axis greater facing test is = no_value OutOfRange facing is

-- the axis that a panel lies across is in use
facing_below : (dims : ℕ) (sign : Option Bool) (axis : Result ℕ Kind) (facing : Facing) → facing_of dims sign axis ≡ Ok facing → facing.axis < dims
facing_below dims None axis facing is = no_value _ facing is
facing_below dims (Some greater) (Err kind) facing is = no_value _ facing is
facing_below dims (Some greater) (Ok axis) facing is = chosen_facing (nat_lt axis dims) dims axis greater facing refl is

-- the rectangle of a line's shape
shape_sound : (dims : ℕ) (line : Stated) (shape : Facing × Rect) → dims ≤ 3 → shape_in dims line ≡ Ok shape → IsPanelRectIn dims shape.1
unfolding shape_in
shape_sound dims line shape few is =
    let words = held (nat_le 2 (length (words_of line))) WrongWordCount _ _ shape is in
    let known = held (is_shape (word_at line 1)) NotInProfile _ _ shape words.1 in
    let exact = held _ WrongWordCount [] _ shape known.1 in
    let facing = valued (facing_in dims (word_at line 2)) _ shape exact.1 in
    let rect = valued (rect_in dims facing.0.axis line) _ shape facing.2 in
    subst (λ (shape : Facing × Rect). IsPanelRectIn dims shape.1) (same_value (facing.0, rect.0) shape rect.2)
    (rect_sound dims facing.0.axis line rect.0 few (facing_below dims (sign_of (word_at line 2)) _ facing.0 facing.1) rect.1)

-- what is known of the panel of a line
pub record IsShown (dims others : ℕ) (names : List (List ℕ)) (panel : Named) : Type 0 where
  pub rect : IsPanelRectIn dims panel.rect
  pub room : others + length names < most_panels

-- and it is so of the panel of every line without a fault
pub panel_sound : (dims others : ℕ) (names : List (List ℕ)) (line : Stated) (panel : Named) → dims ≤ 3 → panel_in dims others names line ≡ Ok panel → IsShown dims others names panel
unfolding panel_in
panel_sound dims others names line panel few is =
    let shape = valued (shape_in dims line) _ panel is in
    let name = valued (name_in dims names line) _ panel shape.2 in
    let room = held (nat_lt (others + length names) most_panels) TooMany [] _ panel name.2 in
    subst (IsShown dims others names) (same_value (record { name = name.0; facing = shape.0.0; rect = shape.0.1 }) panel room.1)
    (record { rect = shape_sound dims line shape.0 few shape.1; room = is_below (others + length names) most_panels room.0 })
