-- What the machine comes to, whatever the order of events.
use Rattle.std.specs.Prelude.{ℕ, ◌≡◌, ◌<◌, Bool, true, false, List, length, Some}
use Rattle.smol_plan.specs.declared.pair.Pair.{Pair}
use Rattle.smol_plan.specs.declared.pair.Side.{Side}
use Rattle.smol_plan.specs.declared.event.Event.{Event}
use Rattle.smol_plan.specs.Pair.{pair_at, shares_molecule}
use Rattle.smol_plan.specs.Matching.{fires}
use Rattle.smol_plan.specs.Links.{has_at}
use Rattle.smol_plan.specs.Machine.{State, is_decided, is_fired, slice_count, IsEnabled}

-- what is decided is decided as in serial matching
pub record FollowsSerial (pairs : List Pair) (state : State) : Type 0 where
  -- each decided pair has the value of serial matching
  pub value : (j : ℕ) (fired : Bool) → state.decision j ≡ Some fired → fired ≡ fires pairs j
  -- each molecule is in at most one fired pair
  pub once : (m i j : ℕ) → is_fired state i ≡ true → is_fired state j ≡ true → has_at pairs m i ≡ true → has_at pairs m j ≡ true → i ≡ j
  -- each refused pair shares a molecule with an earlier fired one
  pub beaten : (j : ℕ) → state.decision j ≡ Some false → (i : ℕ) × (i < j)
      × (shares_molecule (pair_at pairs i) (pair_at pairs j) ≡ true) × (is_fired state i ≡ true)

-- what is held or owed is so by a worker of this many
pub record OfWorkers (workers : ℕ) (state : State) : Type 0 where
  pub holders : (w j : ℕ) → state.holds w j ≡ true → w < workers
  pub owers : (w j : ℕ) (side : Side) → state.owes w j side ≡ true → w < workers

-- every slice is taken, and nothing is held or owed
pub record IsFinished (pairs : List Pair) (state : State) : Type 0 where
  pub taken : (s : ℕ) → s < slice_count pairs → state.taken s ≡ true
  pub none_held : (w j : ℕ) → state.holds w j ≡ false
  pub none_owed : (w j : ℕ) (side : Side) → state.owes w j side ≡ false

-- every pair is decided
abbrev pub AllDecided : List Pair → State → Type 0
AllDecided pairs state = (j : ℕ) → j < length pairs → is_decided state j ≡ true

-- some event may happen
abbrev pub SomeEnabled : List Pair → ℕ → State → Type 0
SomeEnabled pairs workers state = (e : Event) × IsEnabled pairs workers state e
