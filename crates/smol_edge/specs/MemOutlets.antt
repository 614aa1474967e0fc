-- Outlets in memory, as contracts see them.
use Rattle.std.specs.Prelude.{◌≡◌, ◌⊎◌, ℕ, ◌+◌, List, [], length, take, slice_index_or}
use Rattle.smol_edge.specs.Faults.{Rose, RoseByOne}
use Rattle.smol_edge.specs.Calls.{IsNumbered}
use Rattle.smol_edge.specs.Outlets.{Written}

-- the names opened, the bytes of each outlet, how many bytes a write takes at most,
-- the numbers of the calls that are to fail, how many calls were made and have failed,
-- and how often they were refused memory
pub record OutletsState : Type 0 where
  pub names : List (List ℕ)
  pub outlets : List (List ℕ)
  pub most : ℕ
  pub fails : List ℕ
  pub calls : ℕ
  pub faults : ℕ
  pub shortages : ℕ

-- the bytes of an outlet. One that isn't opened has none
abbrev pub bytes_of : OutletsState → ℕ → List ℕ
bytes_of state outlet = slice_index_or (take (2 + length state.names) state.outlets) outlet []

-- what they tell of themselves
abbrev pub written_of : OutletsState → Written
written_of state = record { names = state.names; bytes = bytes_of state }

-- the call was counted, and what was set at the beginning is as it was
pub record Counts (before after : OutletsState) : Type 0 where
  pub most : after.most ≡ before.most
  pub fails : after.fails ≡ before.fails
  pub calls : RoseByOne before.calls after.calls

-- a call may fail for its number, or since memory was refused in it
abbrev pub MayFail : OutletsState → OutletsState → Type 0
MayFail before after = IsNumbered before.fails before.calls ⊎ Rose before.shortages after.shortages
