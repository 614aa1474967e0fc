-- What holds of the machine after each event.
use Rattle.std.specs.Prelude.{ℕ, ◌≡◌, ◌<◌, ◌⊎◌, Bool, true, false, List, length, Some, None}
use Rattle.smol_plan.specs.declared.pair.Pair.{Pair}
use Rattle.smol_plan.specs.declared.pair.Side.{Side}
use Rattle.smol_plan.specs.Matching.{fires}
use Rattle.smol_plan.specs.Links.{source_of}
use Rattle.smol_plan.specs.Machine.{State, slice_of, is_decided, has_no_link, left_of}

-- the link is told, and nobody owes it
pub record IsSettled (state : State) (j : ℕ) (side : Side) : Type 0 where
  pub told : state.told j side ≡ true
  pub nobody : (w : ℕ) → state.owes w j side ≡ false

-- the link is not told, and exactly one worker owes it
pub record IsOwed (state : State) (j : ℕ) (side : Side) : Type 0 where
  pub untold : state.told j side ≡ false
  pub worker : ℕ
  pub owes : state.owes worker j side ≡ true
  pub alone : (w : ℕ) → state.owes w j side ≡ true → w ≡ worker

-- the link is neither told nor owed
pub record IsQuiet (state : State) (j : ℕ) (side : Side) : Type 0 where
  pub untold : state.told j side ≡ false
  pub nobody : (w : ℕ) → state.owes w j side ≡ false

-- the pair and the side are a link whose source is decided
pub record HasDecidedSource (pairs : List Pair) (state : State) (j : ℕ) (side : Side) : Type 0 where
  pub source : ℕ
  pub is : source_of pairs j side ≡ Some source
  pub decided : is_decided state source ≡ true

-- the pair is decided as in serial matching, and all of its links are told
pub record IsDecidedWell (pairs : List Pair) (state : State) (j : ℕ) (fired : Bool) : Type 0 where
  pub in_list : j < length pairs
  pub value : fired ≡ fires pairs j
  pub all_told : left_of pairs state j ≡ 0

-- the pair is undecided, its links are all told, and only this worker holds it
pub record IsHeldWell (pairs : List Pair) (state : State) (w j : ℕ) : Type 0 where
  pub in_list : j < length pairs
  pub undecided : state.decision j ≡ None
  pub all_told : left_of pairs state j ≡ 0
  pub alone : (v : ℕ) → state.holds v j ≡ true → v ≡ w

-- some worker holds the pair
abbrev pub IsHeld : State → ℕ → Type 0
IsHeld state j = (w : ℕ) × (state.holds w j ≡ true)

-- the pair has no link, and its slice is not taken
pub record IsUntouched (pairs : List Pair) (state : State) (j : ℕ) : Type 0 where
  pub no_link : has_no_link pairs j ≡ true
  pub untaken : state.taken (slice_of j) ≡ false

-- the pair is undecided, and nobody holds it
pub record IsIdle (state : State) (j : ℕ) : Type 0 where
  pub undecided : state.decision j ≡ None
  pub nobody : (w : ℕ) → state.holds w j ≡ false

-- what holds after each event
pub record Good (pairs : List Pair) (state : State) : Type 0 where
  -- every decided pair has the value of serial matching, and all of its links are told
  pub decided : (j : ℕ) (fired : Bool) → state.decision j ≡ Some fired → IsDecidedWell pairs state j fired
  -- a link whose source is decided is told and owed by nobody, or not told and owed by exactly one worker
  pub linked : (j : ℕ) (side : Side) → HasDecidedSource pairs state j side → IsSettled state j side ⊎ IsOwed state j side
  -- every other link, and what is no link, is neither told nor owed
  pub quiet : (j : ℕ) (side : Side) → ¬ HasDecidedSource pairs state j side → IsQuiet state j side
  -- a held pair is undecided, has counter 0, and is held by one worker alone
  pub held : (w j : ℕ) → state.holds w j ≡ true → IsHeldWell pairs state w j
  -- an undecided pair with counter 0 is held, or it has no link and its slice is not taken
  pub waiting : (j : ℕ) → j < length pairs → state.decision j ≡ None → left_of pairs state j ≡ 0
      → IsHeld state j ⊎ IsUntouched pairs state j
  -- a pair without a link whose slice is not taken is undecided and not held
  pub untouched : (j : ℕ) → j < length pairs → IsUntouched pairs state j → IsIdle state j
