-- How what outlets tell before and after a call goes with an outcome.
use Rattle.std.specs.Prelude.{◌≡◌, ℕ, ◌<◌, [], ◌++◌, length, take, Option, None, Some, Result, Ok, Err}
use Rattle.smol_edge.specs.Faults.{Rose}
use Rattle.smol_edge.specs.Outlets.{Appends, Written, bytes_on, front_of}
use Rattle.smol_run.specs.declared.status.Status.{Status}
use Rattle.smol_run.specs.declared.status.Status.TheVariants.{Done, Usage, Refused, Input, Output, Memory, Over}
use Rattle.smol_run.specs.declared.loss.Loss.{Loss}
use Rattle.smol_run.specs.declared.loss.Loss.TheVariants as loss
use Rattle.smol_run.specs.declared.stop.Stop.{Stop}
use Rattle.smol_run.specs.declared.stop.Stop.TheVariants as stop
use Rattle.smol_run.specs.declared.words.Job.{Job}
use Rattle.smol_run.specs.Outcome.{Outcome}

-- the answer of a call that a loss cuts off
abbrev pub stop_of : Loss → Stop
stop_of loss.Output = stop.Output
stop_of loss.Memory = stop.Memory

-- a call ended as the outcome says: with its status, its names were opened in order, and each outlet was appended exactly its bytes
pub record EndsWith (outcome : Outcome) (status : Status) (before after : Written) : Type 0 where
  pub status_is : outcome.status ≡ status
  pub names : after.names ≡ before.names ++ outcome.names
  pub bytes : (outlet : ℕ) → after.bytes outlet ≡ before.bytes outlet ++ bytes_on outlet outcome.pieces

-- a call was cut off on the way to the outcome: the names opened are a front of its names, the bytes are those of a front of its
-- pieces, cut anywhere inside a piece, and nothing was written before all names were open
pub record IsCutOff (outcome : Outcome) (before after : Written) : Type 0 where
  pub name_count : ℕ
  pub byte_count : ℕ
  pub names : after.names ≡ before.names ++ take name_count outcome.names
  pub bytes : (outlet : ℕ) → after.bytes outlet ≡ before.bytes outlet ++ bytes_on outlet (front_of byte_count outcome.pieces)
  pub opened_first : name_count < length outcome.names → byte_count ≡ 0

-- an answer goes with the outcome: a status is its own, and any other answer cut the call off
abbrev pub GoesWith : {E : Type 0} → Outcome → Result Status E → Written → Written → Type 0
GoesWith outcome (Ok status) = EndsWith outcome status
GoesWith outcome (Err why) = IsCutOff outcome

-- the same where there may be no outcome: then there is no status, and nothing was opened or written
abbrev pub GoesWithSome : {E : Type 0} → Option Outcome → Result Status E → Written → Written → Type 0
GoesWithSome (Some outcome) result before after = GoesWith outcome result before after
GoesWithSome None (Ok status) before after = ⊥
GoesWithSome None (Err why) before after = Appends [] before after

-- a status with which an outcome may end, so that nothing failed that kept the run from its end
abbrev pub IsDefinite : Status → Type 0
IsDefinite Done = Unit {0}
IsDefinite Usage = Unit {0}
IsDefinite Refused = Unit {0}
IsDefinite Input = ⊥
IsDefinite Output = ⊥
IsDefinite Memory = ⊥
IsDefinite Over = Unit {0}

-- there is an outcome, and the call ended as it says
abbrev pub EndsWithSome : Option Outcome → Status → Written → Written → Type 0
EndsWithSome None status before after = ⊥
EndsWithSome (Some outcome) status before after = EndsWith outcome status before after

-- what was opened and written is a front of the outcome, and nothing where there is none
abbrev pub IsFrontOf : Option Outcome → Written → Written → Type 0
IsFrontOf None before after = Appends [] before after
IsFrontOf (Some outcome) before after = IsCutOff outcome before after

-- how a call may end that finds no outcome: a read failed, or memory ran out
abbrev pub IsLost : Status → Type 0
IsLost Done = ⊥
IsLost Usage = ⊥
IsLost Refused = ⊥
IsLost Input = Unit {0}
IsLost Output = ⊥
IsLost Memory = Unit {0}
IsLost Over = ⊥

-- the answer of a call that finds no outcome
abbrev pub IsUnread : Result Status Stop → Type 0
IsUnread (Ok status) = ⊥
IsUnread (Err stop.Input) = Unit {0}
IsUnread (Err stop.Output) = ⊥
IsUnread (Err stop.Memory) = Unit {0}

-- how words that ask for nothing may end: with the usage line, or where it can't be written
abbrev pub IsMisuse : Status → Type 0
IsMisuse Done = ⊥
IsMisuse Usage = Unit {0}
IsMisuse Refused = ⊥
IsMisuse Input = ⊥
IsMisuse Output = Unit {0}
IsMisuse Memory = ⊥
IsMisuse Over = ⊥

-- a status with which a text may end
abbrev pub IsRun : Status → Type 0
IsRun Done = Unit {0}
IsRun Usage = ⊥
IsRun Refused = Unit {0}
IsRun Input = ⊥
IsRun Output = ⊥
IsRun Memory = ⊥
IsRun Over = Unit {0}

-- an answer goes with what the words ask for: words that ask for nothing end with the usage line, or where it can't be written
abbrev pub FitsWords : Option Job → Result Status Stop → Type 0
FitsWords None (Ok status) = status ≡ Usage
FitsWords None (Err why) = why ≡ stop.Output
FitsWords (Some job) (Ok status) = IsRun status
FitsWords (Some job) (Err why) = Unit {0}

-- the count of failed writes rose exactly where the answer says so. At its last value it stands still, and counts as risen
abbrev pub CountsLoss : {T : Type 0} → Result T Loss → ℕ → ℕ → Type 0
CountsLoss (Ok value) before after = after ≡ before
CountsLoss (Err loss.Output) before after = Rose before after
CountsLoss (Err loss.Memory) before after = after ≡ before

abbrev pub CountsWrites : {T : Type 0} → Result T Stop → ℕ → ℕ → Type 0
CountsWrites (Ok value) before after = after ≡ before
CountsWrites (Err stop.Input) before after = after ≡ before
CountsWrites (Err stop.Output) before after = Rose before after
CountsWrites (Err stop.Memory) before after = after ≡ before

-- the same of failed reads
abbrev pub CountsReads : {T : Type 0} → Result T Stop → ℕ → ℕ → Type 0
CountsReads (Ok value) before after = after ≡ before
CountsReads (Err stop.Input) before after = Rose before after
CountsReads (Err stop.Output) before after = after ≡ before
CountsReads (Err stop.Memory) before after = after ≡ before
