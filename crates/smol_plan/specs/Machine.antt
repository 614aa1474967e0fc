-- The machine by which workers decide the pairs of a list. A set is its test.
use Rattle.std.specs.Prelude.{ℕ, ◌≡◌, ◌<◌, ◌+◌, ◌/◌, Bool, true, false, not, ◌&&◌, ◌||◌, ◌==◌, nat_lt, List, [], ◌∷◌, length, Option, Some, None, unwrap_or, if◌then◌else◌}
use Rattle.std.specs.Option.{is_some}
use Rattle.smol_plan.specs.declared.pair.Pair.{Pair}
use Rattle.smol_plan.specs.declared.pair.Side.{Side}
use Rattle.smol_plan.specs.declared.pair.Side.TheVariants.{Low, High}
use Rattle.smol_plan.specs.declared.event.Event.{Event}
use Rattle.smol_plan.specs.declared.event.Event.TheVariants.{Take, Decide, Tell}
use Rattle.smol_plan.specs.Pair.{pair_at, shares_molecule, is_side}
use Rattle.smol_plan.specs.Links.{is_link, comes_from, any_below}

-- which slices are taken, what is decided of each pair (fired, refused or nothing), which links are told,
-- which worker holds which pair, and which worker owes which link
pub record State : Type 0 where
  pub taken : ℕ → Bool
  pub decision : ℕ → Option Bool
  pub told : ℕ → Side → Bool
  pub holds : ℕ → ℕ → Bool
  pub owes : ℕ → ℕ → Side → Bool

-- at first every set is empty and every pair is undecided
abbrev pub first_state : State
first_state =
    record {
      taken = λ _. false;
      decision = λ _. None;
      told = λ _ _. false;
      holds = λ _ _. false;
      owes = λ _ _ _. false;
    }

-- the slice of a pair: each has 64 pairs, but for the last
abbrev pub slice_of : ℕ → ℕ
slice_of j = j / 64

-- how many slices a list of pairs has
abbrev pub slice_count : List Pair → ℕ
slice_count pairs = (length pairs + 63) / 64

-- whether a pair is decided
abbrev pub is_decided : State → ℕ → Bool
is_decided state j = is_some (state.decision j)

-- whether a pair is decided and fired
abbrev pub is_fired : State → ℕ → Bool
is_fired state j = unwrap_or (state.decision j) false

-- whether a pair has no link
abbrev pub has_no_link : List Pair → ℕ → Bool
has_no_link pairs j = not (is_link pairs j Low) && not (is_link pairs j High)

-- whether the link of a pair on a side is there and not told
abbrev pub is_untold : List Pair → State → ℕ → Side → Bool
is_untold pairs state j side = is_link pairs j side && not (state.told j side)

-- the counter of a pair: how many of its links are not told
abbrev pub left_of : List Pair → State → ℕ → ℕ
left_of pairs state j =
    (if is_untold pairs state j Low then 1 else 0) + (if is_untold pairs state j High then 1 else 0)

-- whether an earlier pair that shares a molecule with this one is fired
abbrev pub is_beaten : List Pair → State → ℕ → Bool
is_beaten pairs state j =
    any_below (λ i. shares_molecule (pair_at pairs i) (pair_at pairs j) && is_fired state i) j

-- the worker takes the slice, and holds those of its pairs that have no link
abbrev pub after_take : List Pair → State → ℕ → ℕ → State
after_take pairs state worker slice =
    record {
      taken = λ s. (s == slice) || state.taken s;
      decision = state.decision;
      told = state.told;
      holds = λ w j. ((w == worker) && (nat_lt j (length pairs) && ((slice_of j == slice) && has_no_link pairs j))) || state.holds w j;
      owes = state.owes;
    }

-- the worker decides the pair, which fires where it is not beaten; it holds the pair no longer, and owes each link that comes from it
abbrev pub after_decide : List Pair → State → ℕ → ℕ → State
after_decide pairs state worker pair =
    record {
      taken = state.taken;
      decision = λ j. if j == pair then Some (not (is_beaten pairs state pair)) else state.decision j;
      told = state.told;
      holds = λ w j. not ((w == worker) && (j == pair)) && state.holds w j;
      owes = λ w j side. ((w == worker) && comes_from pairs pair j side) || state.owes w j side;
    }

-- the link is told
abbrev pub with_told : State → ℕ → Side → State
with_told state pair side = record state { told = λ j s. ((j == pair) && is_side s side) || state.told j s }

-- the worker tells the link and owes it no longer; where the counter of the pair is now 0, the worker holds the pair
abbrev pub after_tell : List Pair → State → ℕ → ℕ → Side → State
after_tell pairs state worker pair side =
    record {
      taken = state.taken;
      decision = state.decision;
      told = (with_told state pair side).told;
      holds = λ w j. ((w == worker) && ((j == pair) && (left_of pairs (with_told state pair side) j == 0))) || state.holds w j;
      owes = λ w j s. not ((w == worker) && ((j == pair) && is_side s side)) && state.owes w j s;
    }

-- what an event leaves
abbrev pub effect : List Pair → State → Event → State
effect pairs state (Take worker slice) = after_take pairs state worker slice
effect pairs state (Decide worker pair) = after_decide pairs state worker pair
effect pairs state (Tell worker pair side) = after_tell pairs state worker pair side

-- a slice is taken once, a pair is decided by a worker that holds it, and a link is told by a worker that owes it
abbrev pub IsAllowed : State → Event → Type 0
IsAllowed state (Take worker slice) = state.taken slice ≡ false
IsAllowed state (Decide worker pair) = state.holds worker pair ≡ true
IsAllowed state (Tell worker pair side) = state.owes worker pair side ≡ true

-- the numbers of an event are of a worker, and of a slice or a pair
abbrev pub IsInRange : List Pair → ℕ → Event → Type 0
IsInRange pairs workers (Take worker slice) = (worker < workers) × (slice < slice_count pairs)
IsInRange pairs workers (Decide worker pair) = (worker < workers) × (pair < length pairs)
IsInRange pairs workers (Tell worker pair side) = (worker < workers) × (pair < length pairs)

-- the event may happen
pub record IsEnabled (pairs : List Pair) (workers : ℕ) (state : State) (event : Event) : Type 0 where
  pub in_range : IsInRange pairs workers event
  pub allowed : IsAllowed state event

-- what a list of events leaves
abbrev pub effects : List Pair → State → List Event → State
effects pairs state [] = state
effects pairs state (e ∷ events) = effects pairs (effect pairs state e) events

-- each event of a list is enabled after those before it
abbrev pub AreEnabled : List Pair → ℕ → State → List Event → Type 0
AreEnabled pairs workers state [] = Unit {0}
AreEnabled pairs workers state (e ∷ events) =
    IsEnabled pairs workers state e × AreEnabled pairs workers (effect pairs state e) events
