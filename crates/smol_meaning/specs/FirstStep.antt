-- The first step from a time on.
use Rattle.std.specs.Prelude.{ℕ, ◌<◌, ℤ, ◌≤ℤ◌, ◌<ℤ◌}
use Rattle.smol_types.specs.declared.draft.Draft.{Draft}
use Rattle.smol_meaning.specs.Timing.{time_of}

-- the least step whose time is at least this one
pub record IsFirstFrom (draft : Draft) (k : ℕ) (t : ℤ) : Type 0 where
  pub reached : t ≤ℤ time_of draft k
  pub before : (i : ℕ) → i < k → time_of draft i <ℤ t
