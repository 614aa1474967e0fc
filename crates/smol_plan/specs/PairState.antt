-- How it stands with one pair: what is kept of it.
use Rattle.std.specs.Prelude.{ℕ, Bool, true, false, Option, Some, None}
use Rattle.smol_plan.specs.declared.pair.Side.{Side}
use Rattle.smol_plan.specs.declared.pair.Side.TheVariants.{Low, High}
use Rattle.smol_plan.specs.declared.decision.Decision.{Decision}
use Rattle.smol_plan.specs.declared.pair_state.PairState.{PairState}

-- of a pair of which nothing has happened
abbrev pub fresh : PairState
fresh =
    record { decision = None; holder = None; told_low = false; told_high = false; ower_low = None; ower_high = None }

-- whether the link on a side is told
abbrev pub told_of : PairState → Side → Bool
told_of s Low = s.told_low
told_of s High = s.told_high

-- who owes the link on a side
abbrev pub ower_of : PairState → Side → Option ℕ
ower_of s Low = s.ower_low
ower_of s High = s.ower_high

-- with the link on a side told
abbrev pub set_told : PairState → Side → PairState
set_told s Low = record s { told_low = true }
set_told s High = record s { told_high = true }

-- with the link on a side owed by this one
abbrev pub set_ower : PairState → Side → Option ℕ → PairState
set_ower s Low o = record s { ower_low = o }
set_ower s High o = record s { ower_high = o }

-- whether the pair was fired, where it is decided
abbrev pub fired_of : Option Decision → Option Bool
fired_of None = None
fired_of (Some d) = Some d.fired
