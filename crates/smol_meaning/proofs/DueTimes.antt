-- When commands at times are due, in words.
use Rattle.std.proofs.Common.{◌≡◌, ℕ, zero, suc, ◌*◌, ◌/◌, ◌≤◌, ◌<◌, ℤ, pos, negsuc, ◌+ℤ◌, ◌-ℤ◌, ◌*ℤ◌, ◌≤ℤ◌, ◌<ℤ◌, Bool, true, false, ◌&&◌, T, int_le, int_lt, refl, sym, subst, arith}
use Rattle.std.specs.Int.{int_div_euclid, int_min}
use Rattle.std.proofs.lemmas.Int.{ints, clamps}
use Rattle.std.proofs.lemmas.Nat.{mul-le}
use Rattle.std.proofs.Math.Nat.{div-mul-le_self, le-div_iff_mul-le, mul-le-mul_right}
use Rattle.smol_types.specs.declared.draft.Draft.{Draft}
use Rattle.smol_types.specs.declared.command.When.TheVariants.{AtTime, Times}
use Rattle.smol_types.specs.declared.command.Phase.TheVariants.{At}
use Rattle.smol_types.specs.Sound.{IsSound}
use Rattle.smol_meaning.specs.FirstStep.{IsFirstFrom}
use Rattle.smol_meaning.specs.Timing.{is_due, last_mark, time_of, were_earlier}

true_from_T : (b : Bool) → T b → b ≡ true
true_from_T true holds = refl
true_from_T false holds = absurd holds

le_from : (a b : ℤ) → int_le a b ≡ true → a ≤ℤ b
le_from a b test = record { le = subst T (sym test) tt }

le_test : (a b : ℤ) → a ≤ℤ b → int_le a b ≡ true
le_test a b low = true_from_T (int_le a b) low.le

lt_from : (a b : ℤ) → int_lt a b ≡ true → a <ℤ b
lt_from a b test = record { lt = subst T (sym test) tt }

lt_test : (a b : ℤ) → a <ℤ b → int_lt a b ≡ true
lt_test a b low = true_from_T (int_lt a b) low.lt

both_true : (a b : Bool) → (a && b) ≡ true → (a ≡ true) × (b ≡ true)
both_true true b is = (refl, is)
both_true false b is = cc is

true_both : (a b : Bool) → a ≡ true → b ≡ true → (a && b) ≡ true
true_both a b first second = rw (first, second) refl

scaled_le : (i j : ℕ) (step : ℤ) → i ≤ j → pos 0 <ℤ step → (pos i *ℤ step) ≤ℤ (pos j *ℤ step)
scaled_le i j (pos n) below above = let grown = mul-le i n j n below (omega arith) in omega (arith, ints)
scaled_le i j (negsuc n) below above = absurd (omega (arith, ints))

-- later steps have later times
time_rises : (draft : Draft) (i j : ℕ) → IsSound draft → i ≤ j → time_of draft i ≤ℤ time_of draft j
time_rises draft i j sound below = let grown = scaled_le i j draft.step below sound.step_above in omega (arith, ints)

earlier_from : (draft : Draft) (k : ℕ) (t : ℤ) → IsSound draft → were_earlier draft k t ≡ true → (i : ℕ) → i < k → time_of draft i <ℤ t
earlier_from draft zero t sound test i below = absurd (omega arith)
earlier_from draft (suc k) t sound test i below =
    let last = lt_from (time_of draft k) t test in
    let rises = time_rises draft i k sound (omega arith) in
    omega (arith, ints)

earlier_test : (draft : Draft) (k : ℕ) (t : ℤ) → ((i : ℕ) → i < k → time_of draft i <ℤ t) → were_earlier draft k t ≡ true
earlier_test draft zero t before = refl
earlier_test draft (suc k) t before = lt_test (time_of draft k) t (before k (omega arith))

-- a command at a time is due at the first step from it on, and only there
pub due_at_time : (draft : Draft) (k : ℕ) (t : ℤ) → IsSound draft → is_due draft (At k) (AtTime t) ≡ true → IsFirstFrom draft k t
unfolding is_due
due_at_time draft k t sound due =
    let parts = both_true (int_le t (time_of draft k)) (were_earlier draft k t) due in
    record { reached = le_from t (time_of draft k) parts.0; before = earlier_from draft k t sound parts.1 }

pub time_is_due : (draft : Draft) (k : ℕ) (t : ℤ) → IsFirstFrom draft k t → is_due draft (At k) (AtTime t) ≡ true
unfolding is_due
time_is_due draft k t first =
    true_both (int_le t (time_of draft k)) (were_earlier draft k t) (le_test t (time_of draft k) first.reached) (earlier_test draft k t first.before)

-- the last mark up to a time is one of the marks, and no later
last_mark_is : (on dt m : ℤ) → on ≤ℤ m → pos 0 <ℤ dt → (j : ℕ) × (last_mark on dt m ≡ on +ℤ (pos j *ℤ dt)) × (last_mark on dt m ≤ℤ m)
last_mark_is on dt m begun apart = go (m -ℤ on) dt refl (omega (arith, ints)) apart
  where
    go : (z d : ℤ) → z ≡ m -ℤ on → pos 0 ≤ℤ z → pos 0 <ℤ d → (j : ℕ) × ((on +ℤ (int_div_euclid z d *ℤ d)) ≡ (on +ℤ (pos j *ℤ d))) × ((on +ℤ (int_div_euclid z d *ℤ d)) ≤ℤ m)
    go (pos a) (pos b) is above apart = let within = div-mul-le_self a b in (a / b, refl, omega (arith, ints))
    go (pos a) (negsuc b) is above apart = absurd (omega (arith, ints))
    go (negsuc a) d is above apart = absurd (omega (arith, ints))

-- a mark up to a time is no later than the last one
mark_below : (on dt m : ℤ) (j : ℕ) → pos 0 <ℤ dt → (on +ℤ (pos j *ℤ dt)) ≤ℤ m → (on ≤ℤ m) × ((on +ℤ (pos j *ℤ dt)) ≤ℤ last_mark on dt m)
mark_below on dt m j apart low = go (m -ℤ on) dt refl apart low
  where
    go : (z d : ℤ) → z ≡ m -ℤ on → pos 0 <ℤ d → (on +ℤ (pos j *ℤ d)) ≤ℤ m → (on ≤ℤ m) × ((on +ℤ (pos j *ℤ d)) ≤ℤ (on +ℤ (int_div_euclid z d *ℤ d)))
    go (pos a) (pos b) is apart low =
        let fits : j * b ≤ a = omega (arith, ints) in
        let some : 0 < b = omega (arith, ints) in
        let grown = mul-le-mul_right b ((le-div_iff_mul-le {k = b} {x = j} {y = a} some).1 fits) in
        (omega (arith, ints), omega (arith, ints, grown))
    go (pos a) (negsuc b) is apart low = absurd (omega (arith, ints))
    go (negsuc a) (pos b) is apart low = absurd (omega (arith, ints))
    go (negsuc a) (negsuc b) is apart low = absurd (omega (arith, ints))

-- a command at times that are a time apart is due at the first step from one of them on, and only there
pub due_at_times : (draft : Draft) (k : ℕ) (on off dt : ℤ) → IsSound draft → pos 0 <ℤ dt → is_due draft (At k) (Times on off dt) ≡ true → (j : ℕ) × ((on +ℤ (pos j *ℤ dt)) ≤ℤ off) × IsFirstFrom draft k (on +ℤ (pos j *ℤ dt))
unfolding is_due
due_at_times draft k on off dt sound apart due =
    let t = time_of draft k in
    let m = int_min off t in
    let parts = both_true (int_le on m) (were_earlier draft k (last_mark on dt m)) due in
    let mark = last_mark_is on dt m (le_from on m parts.0) apart in
    let up = mark.2 in
    let is = mark.1 in (
      mark.0,
      omega (arith, ints, clamps),
      record {
        reached = omega (arith, ints, clamps);
        before = subst (λ (x : ℤ). (i : ℕ) → i < k → time_of draft i <ℤ x) is (earlier_from draft k (last_mark on dt m) sound parts.1);
      },
    )

pub times_are_due : (draft : Draft) (k : ℕ) (on off dt : ℤ) (j : ℕ) → pos 0 <ℤ dt → (on +ℤ (pos j *ℤ dt)) ≤ℤ off → IsFirstFrom draft k (on +ℤ (pos j *ℤ dt)) → is_due draft (At k) (Times on off dt) ≡ true
unfolding is_due
times_are_due draft k on off dt j apart within first =
    let t = time_of draft k in
    let m = int_min off t in
    let reached = first.reached in
    let below = mark_below on dt m j apart (omega (arith, ints, clamps)) in
    let later = below.1 in
    true_both (int_le on m) (were_earlier draft k (last_mark on dt m)) (le_test on m below.0)
    (earlier_test draft k (last_mark on dt m) (λ i low. let sooner = first.before i low in omega (arith, ints)))
