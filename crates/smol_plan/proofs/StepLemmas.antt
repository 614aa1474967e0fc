-- How many events there can be: each takes one from what is left to do.
use Rattle.std.proofs.Common.{◌≡◌, ℕ, zero, suc, ◌+◌, ◌*◌, ◌<◌, ◌≤◌, Bool, true, false, ◌||◌, ◌&&◌, ◌==◌, List, [], ◌∷◌, length, Some, refl, ⊎_elim, arith, if◌then◌else◌}
use Rattle.std.proofs.lemmas.Bool.{cases_Bool, cases_order, or_left, and_from, eq-eqb, false≢true}
use Rattle.smol_plan.specs.declared.pair.Pair.{Pair}
use Rattle.smol_plan.specs.declared.pair.Side.TheVariants.{Low, High}
use Rattle.smol_plan.specs.declared.event.Event.{Event}
use Rattle.smol_plan.specs.declared.event.Event.TheVariants.{Take, Decide, Tell}
use Rattle.smol_plan.specs.Pair.{is_side}
use Rattle.smol_plan.specs.Machine.{State, first_state, is_decided, slice_count, effect, effects, IsEnabled, AreEnabled}
use Rattle.smol_plan.specs.Good.{Good}
use Rattle.smol_plan.proofs.GoodLemmas.{owed_once}
use Rattle.smol_plan.proofs.GoodKept.{Good-effect, Good-first}

-- how many numbers below n fail a test
failing : (ℕ → Bool) → ℕ → ℕ
failing p zero = 0
failing p (suc n) = (if p n then 0 else 1) + failing p n

failing-le : (p : ℕ → Bool) (n : ℕ) → failing p n ≤ n
unfolding failing
failing-le p zero = omega arith
failing-le p (suc n) = one (p n) (failing p n) (failing-le p n)
  where
    one : (b : Bool) (k : ℕ) → k ≤ n → (if b then 0 else 1) + k ≤ suc n
    one true k h = omega arith
    one false k h = omega arith

-- each number that passes p passes q
abbrev Passes : (ℕ → Bool) → (ℕ → Bool) → Type 0
Passes p q = (k : ℕ) → p k ≡ true → q k ≡ true

one_le : (a b : Bool) → (a ≡ true → b ≡ true) → (if b then 0 else 1) ≤ (if a then 0 else 1)
one_le true true h = omega arith
one_le true false h = absurd (false≢true (h refl))
one_le false true h = omega arith
one_le false false h = omega arith

failing_fewer : (p q : ℕ → Bool) (n : ℕ) → Passes p q → failing q n ≤ failing p n
unfolding failing
failing_fewer p q zero h = omega arith
failing_fewer p q (suc n) h = omega (arith, one_le (p n) (q n) (h n), failing_fewer p q n h)

-- one number that failed passes now
failing_less : (p q : ℕ → Bool) (n k : ℕ) → Passes p q → k < n → p k ≡ false → q k ≡ true → failing q n + 1 ≤ failing p n
unfolding failing
failing_less p q zero k h l a b = absurd (omega arith)
failing_less p q (suc n) k h l a b = ⊎_elim
    (λ (e : k ≡ n). this (rw (← e) a) (rw (← e) b))
    (λ e. ⊎_elim (λ (r : k < n). omega (arith, one_le (p n) (q n) (h n), failing_less p q n k h r a b)) (λ r. absurd (omega arith)) e)
    (cases_order k n)
  where
    this : p n ≡ false → q n ≡ true → (if q n then 0 else 1) + failing q n + 1 ≤ (if p n then 0 else 1) + failing p n
    this a b = rw (a, b) (omega (arith, failing_fewer p q n h))

-- what is left to do: slices to take, pairs to decide, and links to tell
to_do : List Pair → State → ℕ
to_do pairs state =
    failing state.taken (slice_count pairs) + failing (is_decided state) (length pairs) + failing (λ j. state.told j Low) (length pairs) + failing (λ j. state.told j High) (length pairs)

same_or : (a b : Bool) → b ≡ true → (a || b) ≡ true
same_or true b h = refl
same_or false b h = h

decided_or : (j pair : ℕ) (v : Bool) (state : State) → is_decided state j ≡ true → is_decided (record state { decision = λ k. if k == pair then Some v else state.decision k }) j ≡ true
decided_or j pair v state h = ⊎_elim
    (λ (e : (j == pair) ≡ true). rw e refl)
    (λ (e : (j == pair) ≡ false). rw e h)
    (cases_Bool (j == pair))

-- each enabled event does one of these
to_do-effect : (pairs : List Pair) (workers : ℕ) (state : State) (event : Event) → Good pairs state → IsEnabled pairs workers state event → to_do pairs (effect pairs state event) + 1 ≤ to_do pairs state
unfolding to_do
to_do-effect pairs workers state (Take worker slice) g h =
    omega (arith, failing_less state.taken (λ s. (s == slice) || state.taken s) (slice_count pairs) slice (λ s e. same_or _ _ e) h.in_range.1 h.allowed (or_left _ _ (eq-eqb slice slice refl)))
to_do-effect pairs workers state (Decide worker pair) g h =
    omega (arith, failing_less (is_decided state) (is_decided (effect pairs state (Decide worker pair))) (length pairs) pair (λ j e. decided_or j pair _ state e) h.in_range.1 (rw (g.held worker pair h.allowed).undecided refl) (rw (eq-eqb pair pair refl) refl))
to_do-effect pairs workers state (Tell worker pair Low) g h =
    omega (arith, failing_less (λ j. state.told j Low) (λ j. ((j == pair) && is_side Low Low) || state.told j Low) (length pairs) pair (λ j e. same_or _ _ e) h.in_range.1 (owed_once pairs state g worker pair Low h.allowed).untold (or_left _ _ (and_from _ _ (eq-eqb pair pair refl) refl)), failing_fewer (λ j. state.told j High) (λ j. ((j == pair) && is_side High Low) || state.told j High) (length pairs) (λ j e. same_or _ _ e))
to_do-effect pairs workers state (Tell worker pair High) g h =
    omega (arith, failing_less (λ j. state.told j High) (λ j. ((j == pair) && is_side High High) || state.told j High) (length pairs) pair (λ j e. same_or _ _ e) h.in_range.1 (owed_once pairs state g worker pair High h.allowed).untold (or_left _ _ (and_from _ _ (eq-eqb pair pair refl) refl)), failing_fewer (λ j. state.told j Low) (λ j. ((j == pair) && is_side Low High) || state.told j Low) (length pairs) (λ j e. same_or _ _ e))

to_do-effects : (pairs : List Pair) (workers : ℕ) (state : State) (events : List Event) → Good pairs state → AreEnabled pairs workers state events → length events + to_do pairs (effects pairs state events) ≤ to_do pairs state
to_do-effects pairs workers state [] g h = omega arith
to_do-effects pairs workers state (e ∷ events) g h =
    omega (arith, to_do-effect pairs workers state e g h.0, to_do-effects pairs workers (effect pairs state e) events (Good-effect pairs state e h.0.allowed g) h.1)

-- no list of enabled events has more than the slices and three times the pairs
pub events_bound : (pairs : List Pair) (workers : ℕ) (events : List Event) → AreEnabled pairs workers first_state events → length events ≤ slice_count pairs + 3 * length pairs
unfolding to_do
events_bound pairs workers events h =
    omega (arith, to_do-effects pairs workers first_state events (Good-first pairs) h, failing-le first_state.taken (slice_count pairs), failing-le (is_decided first_state) (length pairs), failing-le (λ j. first_state.told j Low) (length pairs), failing-le (λ j. first_state.told j High) (length pairs))
