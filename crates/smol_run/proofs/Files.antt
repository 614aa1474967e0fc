-- From what a source told of files to their outcome.
use Rattle.std.proofs.Common.{◌≡◌, ℕ, List, Option, None, Some, IfSome, Result, Ok, Err, IsErr, IsErrAnd, ap, ◌∙◌}
use Rattle.smol_edge.specs.Faults.{Tells}
use Rattle.smol_edge.specs.Source.{Reading}
use Rattle.smol_edge.specs.Outlets.{Written}
use Rattle.smol_edge.proofs.Pieces.{Appends-nothing}
use Rattle.smol_edge.proofs.Telling.{Tells-same}
use Rattle.smol_macro.specs.declared.expand_fault.ExpandFault.{ExpandFault}
use Rattle.smol_macro.specs.declared.expand_fault.ExpandFault.TheVariants as expand
use Rattle.smol_macro.specs.declared.expand_fault.MacroKind.{MacroKind}
use Rattle.smol_macro.specs.Refusal.{Refuses, kind_text}
use Rattle.smol_macro.specs.Including.{expanded}
use Rattle.smol_run.specs.declared.refusal.Refusal.{Refusal}
use Rattle.smol_run.specs.declared.status.Status.{Status}
use Rattle.smol_run.specs.declared.words.Job.{Job}
use Rattle.smol_run.specs.declared.loss.Loss.{Loss}
use Rattle.smol_run.specs.declared.loss.Loss.TheVariants as loss
use Rattle.smol_run.specs.declared.stop.Stop.{Stop}
use Rattle.smol_run.specs.Ends.{FitsWords, GoesWith, GoesWithSome, stop_of}
use Rattle.smol_run.specs.Outcome.{Outcome, misused, outcome_of_files, outcome_of_job, outcome_of_text, refused}
use Rattle.smol_run.specs.Told.{refusal_of_files}
use Rattle.smol_run.proofs.Cuts.{cut_at_once}

-- what goes with the outcome of an expanded text goes with that of the files
pub goes_with_text : {E : Type 0} (seed runs : Option ℕ) (name text : List ℕ) (result : Result Status E) (a : Option Reading) (w v : Option Written)
    → IfSome a (λ reading. expanded reading.contents name ≡ Ok text) → Tells w v (GoesWith (outcome_of_text seed runs text) result)
    → IfSome a (λ reading. Tells w v (GoesWithSome (outcome_of_files seed runs (expanded reading.contents name)) result))
goes_with_text seed runs name text result None w v gives goes = tt
goes_with_text seed runs name text result (Some x) w v gives goes = rw gives goes

-- the same of files that are refused
pub goes_with_refusal : {E : Type 0} (seed runs : Option ℕ) (name : List ℕ) (fault : ExpandFault) (refusal : Refusal MacroKind) (result : Result Status E) (a : Option Reading) (w v : Option Written)
    → Ok refusal ≡ refusal_of_files fault → IfSome a (λ reading. Refuses fault (expanded reading.contents name))
    → Tells w v (GoesWith (refused refusal.line (kind_text refusal.kind)) result)
    → IfSome a (λ reading. Tells w v (GoesWithSome (outcome_of_files seed runs (expanded reading.contents name)) result))
goes_with_refusal seed runs name fault refusal result None w v is refuses goes = tt
goes_with_refusal seed runs name (expand.At line kind) refusal result (Some x) w v is refuses goes = rw refuses (rw (ap (from_ok refusal) is) at goes)
  where
    from_ok : Refusal MacroKind → Result (Refusal MacroKind) Stop → Refusal MacroKind
    from_ok other (Ok refusal) = refusal
    from_ok other (Err why) = other
goes_with_refusal seed runs name expand.ReadFault refusal result (Some x) w v is refuses goes = absurd (cc)
goes_with_refusal seed runs name expand.OutOfMemory refusal result (Some x) w v is refuses goes = absurd (cc)

-- where there is an expanded text, each file is there
pub text_is_there : (seed runs : Option ℕ) (name text : List ℕ) (a : Option Reading) (P : Type 0)
    → IfSome a (λ reading. expanded reading.contents name ≡ Ok text)
    → IfSome a (λ reading. outcome_of_files seed runs (expanded reading.contents name) ≡ None → P)
text_is_there seed runs name text None P gives = tt
text_is_there seed runs name text (Some x) P gives = rw gives (λ none. absurd (cc))

-- and where a refusal is met, each that was asked for
pub refusal_is_there : (seed runs : Option ℕ) (name : List ℕ) (fault : ExpandFault) (refusal : Refusal MacroKind) (a : Option Reading) (P : Type 0)
    → Ok refusal ≡ refusal_of_files fault → IfSome a (λ reading. Refuses fault (expanded reading.contents name))
    → IfSome a (λ reading. outcome_of_files seed runs (expanded reading.contents name) ≡ None → P)
refusal_is_there seed runs name fault refusal None P is refuses = tt
refusal_is_there seed runs name (expand.At line kind) refusal (Some x) P is refuses = rw refuses (λ none. absurd (cc))
refusal_is_there seed runs name expand.ReadFault refusal (Some x) P is refuses = absurd (cc)
refusal_is_there seed runs name expand.OutOfMemory refusal (Some x) P is refuses = absurd (cc)

-- words that ask for nothing go with the usage line
pub misused_goes : {E : Type 0} (job : Option Job) (words : List (List ℕ)) (result : Result Status E) (a : Option Reading) (w v : Option Written)
    → None ≡ job → Tells w v (GoesWith misused result)
    → IfSome a (λ reading. Tells w v (GoesWithSome (outcome_of_job job words reading.contents) result))
misused_goes None words result None w v none goes = tt
misused_goes None words result (Some x) w v none goes = goes
misused_goes (Some job) words result a w v none goes = absurd (cc)

-- words that ask for nothing are fit to end where the usage line can't be written
pub misused_fits : (job : Option Job) (result : Result Status Stop) (why : Loss) → None ≡ job → why ≡ loss.Output
    → IsErrAnd result (λ answer. answer ≡ stop_of why) → FitsWords job result
misused_fits None (Ok status) why none cause is = absurd is
misused_fits None (Err answer) why none cause is = is ∙ ap stop_of cause
misused_fits (Some job) result why none cause is = absurd (cc)

-- nothing was done yet
pub nothing_yet : {E : Type 0} (outcome : Option Outcome) (why : E) (w : Written) → GoesWithSome outcome (Err why) w w
nothing_yet None why w = Appends-nothing w
nothing_yet (Some outcome) why w = cut_at_once outcome w

-- the same whatever file it is
pub nothing_yet_of : {E : Type 0} (outcome : Reading → Option Outcome) (why : E) (a : Option Reading) (w : Option Written)
    → IfSome a (λ reading. Tells w w (GoesWithSome (outcome reading) (Err why)))
nothing_yet_of outcome why None w = tt
nothing_yet_of outcome why (Some x) w = Tells-same w (GoesWithSome (outcome x) (Err why)) (nothing_yet (outcome x) why)

-- and whatever answer it is that is no status
pub nothing_yet_by : {E : Type 0} (outcome : Reading → Option Outcome) (result : Result Status E) (a : Option Reading) (w : Option Written)
    → IsErr result → IfSome a (λ reading. Tells w w (GoesWithSome (outcome reading) result))
nothing_yet_by outcome (Ok status) a w failed = absurd (cc)
nothing_yet_by outcome (Err why) a w failed = nothing_yet_of outcome why a w
