-- A line on one axis, from a number inside bounds to another number: how far it goes, and how much room it has.
use Rattle.std.proofs.Common.{⊎_elim, ◌≡◌, ℕ, ◌*◌, ◌<◌, ◌≤◌, ◌⊎◌, inl, inr, Bool, true, false, cond, ℤ, pos, neg_ℤ, ◌+ℤ◌, ◌-ℤ◌, ◌*ℤ◌, ◌≤ℤ◌, ◌<ℤ◌, int_lt, unsigned_abs, refl, sym, ap, subst, ◌∙◌, arith}
use Rattle.std.proofs.lemmas.Bool.{cases_Bool}
use Rattle.std.proofs.lemmas.Int.{ints}
use borrow.Author.Differences.{lt-true, lt-false}
use Rattle.smol_geom.specs.Axes.{IsEven, IsOdd}
use Rattle.smol_geom.specs.Line.{IsStrictlyBetween}
use Rattle.smol_geom.specs.Part.{scaled_way}
use Rattle.smol_geom.proofs.Fractions.{over}
use Rattle.smol_geom.proofs.Integers.{sums, mul-add_left, mul-neg_right, mul_le_ℤ}

pub less_from : (a b : ℤ) → a <ℤ b → int_lt a b ≡ true
less_from a b h = ⊎_elim (λ e. e) (λ e. let no = lt-false a b e in absurd (omega (arith, ints))) (cases_Bool (int_lt a b))

pub less_is : (a b : ℤ) → int_lt a b ≡ true → a <ℤ b
less_is a b e = let yes = lt-true a b e in omega (arith, ints)

pub not_less_from : (a b : ℤ) → b <ℤ a → int_lt a b ≡ false
not_less_from a b h = ⊎_elim (λ e. let no = lt-true a b e in absurd (omega (arith, ints))) (λ e. e) (cases_Bool (int_lt a b))

pub not_less_is : (a b : ℤ) → int_lt a b ≡ false → b ≤ℤ a
not_less_is a b e = let no = lt-false a b e in omega (arith, ints)

-- how far it goes
abbrev pub far_to : ℤ → ℤ → ℕ
far_to u v = unsigned_abs (v -ℤ u)

-- the bound that it goes to
abbrev pub bound_to : ℤ → ℤ → ℤ → ℤ → ℤ
bound_to low high u v = cond (int_lt u v) high low

-- how far that is
abbrev pub room_to : ℤ → ℤ → ℤ → ℤ → ℕ
room_to low high u v = unsigned_abs (bound_to low high u v -ℤ u)

-- what the line is on its way up
pub record GoesUp (low high u v : ℤ) (room far : ℕ) : Type 0 where
  pub above : low <ℤ u
  pub bound : high ≡ u +ℤ pos room
  pub way : v -ℤ u ≡ pos far

-- and down
pub record GoesDown (low high u v : ℤ) (room far : ℕ) : Type 0 where
  pub below : u <ℤ high
  pub bound : u ≡ low +ℤ pos room
  pub way : v -ℤ u ≡ neg_ℤ (pos far)

pub goes_up_is : (low high u v : ℤ) → low <ℤ u → u <ℤ high → int_lt u v ≡ true → GoesUp low high u v (room_to low high u v) (far_to u v)
goes_up_is low high u v above below up =
    let less = less_is u v up in
    record {
      above = above;
      bound = room;
      way = omega (arith, ints);
    }
  where
    at_high : unsigned_abs (high -ℤ u) ≡ room_to low high u v
    at_high = ap (λ (b : Bool). unsigned_abs (cond b high low -ℤ u)) (sym up)

    room : high ≡ u +ℤ pos (room_to low high u v)
    room = subst (λ n. high ≡ u +ℤ pos n) at_high (omega (arith, ints))

pub goes_down_is : (low high u v : ℤ) → low <ℤ u → u <ℤ high → int_lt u v ≡ false → GoesDown low high u v (room_to low high u v) (far_to u v)
goes_down_is low high u v above below down =
    let less = not_less_is u v down in
    record {
      below = below;
      bound = room;
      way = omega (arith, ints);
    }
  where
    at_low : unsigned_abs (low -ℤ u) ≡ room_to low high u v
    at_low = ap (λ (b : Bool). unsigned_abs (cond b high low -ℤ u)) (sym down)

    room : u ≡ low +ℤ pos (room_to low high u v)
    room = subst (λ n. u ≡ low +ℤ pos n) at_low (omega (arith, ints))

-- after a part n / d of the way the line is within the bounds
pub record IsWithinBounds (low high u v : ℤ) (n d : ℕ) : Type 0 where
  pub above_low : (low *ℤ pos d) ≤ℤ scaled_way u (v -ℤ u) (over n d)
  pub below_high : scaled_way u (v -ℤ u) (over n d) ≤ℤ (high *ℤ pos d)

within_up : (low high u v : ℤ) (room far n d : ℕ) → GoesUp low high u v room far → n * far ≤ room * d → IsWithinBounds low high u v n d
within_up low high u v room far n d up part =
    let from_low = mul_le_ℤ low u d (weaker low u up.above) in
    let to_high = mul-add_left u (pos room) (pos d) in
    let bound = ap (λ (z : ℤ). z *ℤ pos d) up.bound in
    let way : scaled_way u (v -ℤ u) (over n d) ≡ u *ℤ pos d +ℤ pos n *ℤ pos far = ap (λ (z : ℤ). u *ℤ pos d +ℤ pos n *ℤ z) up.way in
    let made : pos n *ℤ pos far ≡ pos (n * far) = refl in
    let left : pos room *ℤ pos d ≡ pos (room * d) = refl in
    record { above_low = omega (arith, sums); below_high = omega (arith, sums) }
  where
    weaker : (a b : ℤ) → a <ℤ b → a ≤ℤ b
    weaker a b h = omega (arith, ints, h)

within_down : (low high u v : ℤ) (room far n d : ℕ) → GoesDown low high u v room far → n * far ≤ room * d → IsWithinBounds low high u v n d
within_down low high u v room far n d down part =
    let to_high = mul_le_ℤ u high d (weaker u high down.below) in
    let from_low = mul-add_left low (pos room) (pos d) in
    let bound = ap (λ (z : ℤ). z *ℤ pos d) down.bound in
    let way : scaled_way u (v -ℤ u) (over n d) ≡ u *ℤ pos d +ℤ pos n *ℤ neg_ℤ (pos far) = ap (λ (z : ℤ). u *ℤ pos d +ℤ pos n *ℤ z) down.way in
    let back = mul-neg_right (pos n) (pos far) in
    let made : pos n *ℤ pos far ≡ pos (n * far) = refl in
    let left : pos room *ℤ pos d ≡ pos (room * d) = refl in
    record { above_low = omega (arith, sums); below_high = omega (arith, sums) }
  where
    weaker : (a b : ℤ) → a <ℤ b → a ≤ℤ b
    weaker a b h = omega (arith, ints, h)

-- a part of the way that leads no farther than there is room is within the bounds
pub within_bounds : (low high u v : ℤ) (n d : ℕ) → low <ℤ u → u <ℤ high → n * far_to u v ≤ room_to low high u v * d → IsWithinBounds low high u v n d
within_bounds low high u v n d above below part = ⊎_elim
    (λ up. within_up low high u v (room_to low high u v) (far_to u v) n d (goes_up_is low high u v above below up) part)
    (λ down. within_down low high u v (room_to low high u v) (far_to u v) n d (goes_down_is low high u v above below down) part)
    (cases_Bool (int_lt u v))

-- at the part room / far of the way the line is on the bound
exact_up : (low high u v : ℤ) (room far : ℕ) → GoesUp low high u v room far → high *ℤ pos far ≡ scaled_way u (v -ℤ u) (over room far)
exact_up low high u v room far up =
    ap (λ (z : ℤ). z *ℤ pos far) up.bound ∙ mul-add_left u (pos room) (pos far) ∙ ap (λ (z : ℤ). u *ℤ pos far +ℤ pos room *ℤ z) (sym up.way)

exact_down : (low high u v : ℤ) (room far : ℕ) → GoesDown low high u v room far → low *ℤ pos far ≡ scaled_way u (v -ℤ u) (over room far)
exact_down low high u v room far down =
    let moved : scaled_way u (v -ℤ u) (over room far) ≡ (low +ℤ pos room) *ℤ pos far +ℤ pos room *ℤ neg_ℤ (pos far) =
    λ i. down.bound i *ℤ pos far +ℤ pos room *ℤ down.way i in
    let spread = mul-add_left low (pos room) (pos far) in
    let back = mul-neg_right (pos room) (pos far) in
    omega (arith, sums)

pub on_bound : (low high u v : ℤ) → low <ℤ u → u <ℤ high → bound_to low high u v *ℤ pos (far_to u v) ≡ scaled_way u (v -ℤ u) (over (room_to low high u v) (far_to u v))
on_bound low high u v above below = ⊎_elim
    (λ up. ap (λ (b : Bool). cond b high low *ℤ pos (far_to u v)) up
    ∙ exact_up low high u v (room_to low high u v) (far_to u v) (goes_up_is low high u v above below up))
    (λ down. ap (λ (b : Bool). cond b high low *ℤ pos (far_to u v)) down
    ∙ exact_down low high u v (room_to low high u v) (far_to u v) (goes_down_is low high u v above below down))
    (cases_Bool (int_lt u v))

-- a line that goes farther than there is room passes the bound
passes_up : (low high u v : ℤ) (room far : ℕ) → u <ℤ high → GoesUp low high u v room far → room < far → IsStrictlyBetween high u v
passes_up low high u v room far below up short = let bound = up.bound in let way = up.way in inl (below, omega (arith, ints))

passes_down : (low high u v : ℤ) (room far : ℕ) → low <ℤ u → GoesDown low high u v room far → room < far → IsStrictlyBetween low u v
passes_down low high u v room far above down short = let bound = down.bound in let way = down.way in inr (omega (arith, ints), above)

pub passes_bound : (low high u v : ℤ) → low <ℤ u → u <ℤ high → room_to low high u v < far_to u v → IsStrictlyBetween (bound_to low high u v) u v
passes_bound low high u v above below short = ⊎_elim
    (λ up. subst (λ (b : Bool). IsStrictlyBetween (cond b high low) u v) (sym up)
    (passes_up low high u v (room_to low high u v) (far_to u v) below (goes_up_is low high u v above below up) short))
    (λ down. subst (λ (b : Bool). IsStrictlyBetween (cond b high low) u v) (sym down)
    (passes_down low high u v (room_to low high u v) (far_to u v) above (goes_down_is low high u v above below down) short))
    (cases_Bool (int_lt u v))

-- an odd number that isn't above an even one is below it, and the other way round
odd_below : (v p : ℤ) → IsOdd v → IsEven p → v ≤ℤ p → v <ℤ p
odd_below v p odd even most = ⊎_elim (λ (less : v <ℤ p). less) (λ (same : v ≡ p). absurd (no same)) (cases v p most)
  where
    cases : (a b : ℤ) → a ≤ℤ b → (a <ℤ b) ⊎ (a ≡ b)
    cases a b h = ⊎_elim (λ up. inl (less_is a b up)) (λ down. let back = not_less_is a b down in inr (omega (arith, ints))) (cases_Bool (int_lt a b))

    no : v ≡ p → ⊥
    no same = let size = ap unsigned_abs same in omega (arith, odd, even, size)

even_below : (p v : ℤ) → IsEven p → IsOdd v → p ≤ℤ v → p <ℤ v
even_below p v even odd most = ⊎_elim (λ (less : p <ℤ v). less) (λ (same : p ≡ v). absurd (no same)) (cases p v most)
  where
    cases : (a b : ℤ) → a ≤ℤ b → (a <ℤ b) ⊎ (a ≡ b)
    cases a b h = ⊎_elim (λ up. inl (less_is a b up)) (λ down. let back = not_less_is a b down in inr (omega (arith, ints))) (cases_Bool (int_lt a b))

    no : p ≡ v → ⊥
    no same = let size = ap unsigned_abs same in omega (arith, odd, even, size)

ends_up : (low high u v : ℤ) (room far : ℕ) → GoesUp low high u v room far → far ≤ room → (low <ℤ v) × (v ≤ℤ high)
ends_up low high u v room far up enough = let above = up.above in let bound = up.bound in let way = up.way in (omega (arith, ints), omega (arith, ints))

ends_down : (low high u v : ℤ) (room far : ℕ) → GoesDown low high u v room far → far ≤ room → (low ≤ℤ v) × (v <ℤ high)
ends_down low high u v room far down enough = let below = down.below in let bound = down.bound in let way = down.way in (omega (arith, ints), omega (arith, ints))

-- a line to an odd number that has room between even bounds ends between them
pub ends_between : (low high u v : ℤ) → low <ℤ u → u <ℤ high → IsEven low → IsEven high → IsOdd v → far_to u v ≤ room_to low high u v → (low <ℤ v) × (v <ℤ high)
ends_between low high u v above below even_low even_high odd enough = ⊎_elim
    (λ up. let ends = ends_up low high u v (room_to low high u v) (far_to u v) (goes_up_is low high u v above below up) enough in
    (ends.0, odd_below v high odd even_high ends.1))
    (λ down. let ends = ends_down low high u v (room_to low high u v) (far_to u v) (goes_down_is low high u v above below down) enough in
    (even_below low v even_low odd ends.0, ends.1))
    (cases_Bool (int_lt u v))
