-- When commands are due.
use Rattle.std.specs.Prelude.{ℕ, zero, suc, ◌-◌, ◌%◌, ◌&&◌, ◌==◌, Bool, true, false, nat_le, ℤ, ◌+ℤ◌, ◌-ℤ◌, ◌*ℤ◌, int_le, int_lt}
use Rattle.std.specs.Int.{int_div_euclid, int_min}
use Rattle.smol_types.specs.declared.draft.Draft.{Draft}
use Rattle.smol_types.specs.declared.command.When.{When}
use Rattle.smol_types.specs.declared.command.When.TheVariants as «when»
use Rattle.smol_types.specs.declared.command.Phase.{Phase}
use Rattle.smol_types.specs.declared.command.Phase.TheVariants as phase
use Rattle.smol_types.specs.Steps.{time_at}

-- the time of step k of a run
abbrev pub time_of : Draft → ℕ → ℤ
time_of draft k = time_at draft.start draft.step k

-- whether the steps before step k are earlier than a time
abbrev pub were_earlier : Draft → ℕ → ℤ → Bool
were_earlier draft zero t = true
were_earlier draft (suc k) t = int_lt (time_of draft k) t

-- whether step k is the first whose time is at least this one
abbrev pub is_first_from : Draft → ℕ → ℤ → Bool
is_first_from draft k t = int_le t (time_of draft k) && were_earlier draft k t

-- the last of the times that begin with `on` and are `dt` apart, up to this one
abbrev pub last_mark : ℤ → ℤ → ℤ → ℤ
last_mark on dt t = on +ℤ (int_div_euclid (t -ℤ on) dt *ℤ dt)

-- whether step k is the first whose time is at least one of the times from `on` to `off` that are `dt` apart: of those that it has
-- reached, the last is still ahead of the step before
abbrev pub is_at_mark : Draft → ℕ → ℤ → ℤ → ℤ → Bool
is_at_mark draft k on off dt =
    int_le on (int_min off (time_of draft k)) && were_earlier draft k (last_mark on dt (int_min off (time_of draft k)))

-- whether a command of this timing is due at step k
abbrev pub is_due_at : Draft → ℕ → When → Bool
is_due_at draft k «when».Before = false
is_due_at draft k «when».After = false
is_due_at draft k «when».Every = true
is_due_at draft k («when».Each m) = k % m == 0
is_due_at draft k («when».AtTime t) = is_first_from draft k t
is_due_at draft k («when».Times on off dt) = is_at_mark draft k on off dt
is_due_at draft k («when».Steps on off m) = nat_le on k && nat_le k off && ((k - on) % m == 0)

abbrev pub is_before : When → Bool
is_before «when».Before = true
is_before «when».After = false
is_before «when».Every = false
is_before («when».Each m) = false
is_before («when».AtTime t) = false
is_before («when».Times on off dt) = false
is_before («when».Steps on off m) = false

abbrev pub is_after : When → Bool
is_after «when».Before = false
is_after «when».After = true
is_after «when».Every = false
is_after («when».Each m) = false
is_after («when».AtTime t) = false
is_after («when».Times on off dt) = false
is_after («when».Steps on off m) = false

-- whether a command of this timing is due in a phase of the run
unfoldable pub is_due : Draft → Phase → When → Bool
is_due draft phase.Before timing = is_before timing
is_due draft (phase.At k) timing = is_due_at draft k timing
is_due draft phase.After timing = is_after timing
