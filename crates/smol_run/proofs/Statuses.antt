-- What the status of an answer says, by what the answer goes with.
use Rattle.std.proofs.Common.{◌≡◌, ℕ, Option, None, Some, IfSome, Result, Ok, Err, refl, sym, ◌∙◌, subst}
use Rattle.smol_edge.specs.Faults.{Rose, Tells}
use Rattle.smol_edge.specs.Outlets.{Written}
use Rattle.smol_edge.specs.Source.{Reading}
use Rattle.smol_run.specs.declared.status.Status.{Status}
use Rattle.smol_run.specs.declared.status.Status.TheVariants as status
use Rattle.smol_run.specs.declared.stop.Stop.{Stop}
use Rattle.smol_run.specs.declared.stop.Stop.TheVariants as stop
use Rattle.smol_run.specs.declared.words.Job.{Job}
use Rattle.smol_run.specs.Ends.{CountsReads, CountsWrites, EndsWithSome, FitsWords, GoesWithSome, IsDefinite, IsLost, IsRun, IsUnread}
use Rattle.smol_run.specs.Outcome.{Outcome}
use Rattle.smol_run.specs.Told.{status_told}
use Rattle.smol_run.proofs.Cuts.{ends_told}

-- with a definite status the call ended as the outcome says
pub definite_ends : (outcome : Reading → Option Outcome) (made : Result Status Stop) (status : Status) (a : Option Reading) (w v : Option Written)
    → status ≡ status_told made → IfSome a (λ reading. Tells w v (GoesWithSome (outcome reading) made)) → IsDefinite status
    → IfSome a (λ reading. Tells w v (EndsWithSome (outcome reading) status))
definite_ends outcome (Ok own) status a w v is goes definite = rw is (ends_told outcome own a w v goes)
definite_ends outcome (Err stop.Input) status a w v is goes definite = absurd (subst IsDefinite is definite)
definite_ends outcome (Err stop.Output) status a w v is goes definite = absurd (subst IsDefinite is definite)
definite_ends outcome (Err stop.Memory) status a w v is goes definite = absurd (subst IsDefinite is definite)

unread_is_lost : (made : Result Status Stop) → IsUnread made → IsLost (status_told made)
unread_is_lost (Ok status) unread = absurd unread
unread_is_lost (Err stop.Input) unread = tt
unread_is_lost (Err stop.Output) unread = absurd unread
unread_is_lost (Err stop.Memory) unread = tt

-- without an outcome the call is lost
pub absent_is_lost : (outcome : Reading → Option Outcome) (made : Result Status Stop) (status : Status) (a : Option Reading)
    → status ≡ status_told made → IfSome a (λ reading. outcome reading ≡ None → IsUnread made)
    → IfSome a (λ reading. outcome reading ≡ None → IsLost status)
absent_is_lost outcome made status None is unread = tt
absent_is_lost outcome made status (Some reading) is unread = λ absent. subst IsLost (sym is) (unread_is_lost made (unread absent))

-- a status that words may end with says of no read that it failed, and of no write
fits_no_fault : (job : Option Job) (own : Status) → FitsWords job (Ok own) → (own ≡ status.Input → ⊥) × (own ≡ status.Output → ⊥)
fits_no_fault None own fits = (λ is. absurd (cc), λ is. absurd (cc))
fits_no_fault (Some job) own fits = (λ is. subst IsRun is fits, λ is. subst IsRun is fits)

-- a call ends with the status of a failed read only where one failed
pub read_failed : (job : Option Job) (made : Result Status Stop) (own : Status) (before after : ℕ)
    → own ≡ status_told made → FitsWords job made → CountsReads made before after → own ≡ status.Input → Rose before after
read_failed job (Ok other) own before after is fits counts input = absurd ((fits_no_fault job other fits).0 (sym is ∙ input))
read_failed job (Err stop.Input) own before after is fits counts input = counts
read_failed job (Err stop.Output) own before after is fits counts input = absurd (cc)
read_failed job (Err stop.Memory) own before after is fits counts input = absurd (cc)

-- and with that of a failed write only where one failed
pub write_failed : (job : Option Job) (made : Result Status Stop) (own : Status) (before after : ℕ)
    → own ≡ status_told made → FitsWords job made → CountsWrites made before after → own ≡ status.Output → Rose before after
write_failed job (Ok other) own before after is fits counts output = absurd ((fits_no_fault job other fits).1 (sym is ∙ output))
write_failed job (Err stop.Input) own before after is fits counts output = absurd (cc)
write_failed job (Err stop.Output) own before after is fits counts output = counts
write_failed job (Err stop.Memory) own before after is fits counts output = absurd (cc)

-- a call ends with the status of refused words only where they ask for nothing
pub usage_is_misuse : (job : Option Job) (made : Result Status Stop) (own : Status) → own ≡ status_told made → FitsWords job made → own ≡ status.Usage
    → job ≡ None
usage_is_misuse None made own is fits usage = refl
usage_is_misuse (Some job) (Ok other) own is fits usage = absurd (subst IsRun (sym is ∙ usage) fits)
usage_is_misuse (Some job) (Err stop.Input) own is fits usage = absurd (cc)
usage_is_misuse (Some job) (Err stop.Output) own is fits usage = absurd (cc)
usage_is_misuse (Some job) (Err stop.Memory) own is fits usage = absurd (cc)
