-- A fault of a run and the line that tells it come to the outcome of the run, or are cut off on the way.
use Rattle.std.proofs.Common.{◌≡◌, ℕ, List, Result, Ok, Err, IsErrAnd, refl, sym, subst}
use Rattle.smol_edge.specs.Faults.{Rose}
use Rattle.smol_edge.specs.Outlets.{Appends, AppendsFrontOf, Written}
use Rattle.smol_edge.proofs.PieceFronts.{AppendsFrontOf-all, AppendsFrontOf-nothing}
use Rattle.smol_meaning.specs.Placement.{NoPlace}
use Rattle.smol_meaning.specs.Stretch.{Stretch}
use Rattle.smol_loop.specs.declared.run_fault.RunFault.{RunFault}
use Rattle.smol_loop.specs.declared.run_fault.RunFault.TheVariants as fault
use Rattle.smol_loop.specs.Simulation.{EndsAs, Prints, pieces_of}
use Rattle.smol_run.specs.declared.ended.Ended.{Ended}
use Rattle.smol_run.specs.declared.ended.Ended.TheVariants as ended
use Rattle.smol_run.specs.declared.loss.Loss.{Loss}
use Rattle.smol_run.specs.declared.loss.Loss.TheVariants as loss
use Rattle.smol_run.specs.declared.status.Status.{Status}
use Rattle.smol_run.specs.Ends.{CountsLoss, EndsWith, IsCutOff}
use Rattle.smol_run.specs.Opening.{OpensAll}
use Rattle.smol_run.specs.Outcome.{error_line, outcome_of_run}
use Rattle.smol_run.specs.Told.{ended_by, line_of_end, status_of_end}
use Rattle.smol_run.proofs.Cuts.{no_place_cut_off, no_place_told, over_cut_off, over_told, run_cut_off}

module _ (T : Type 0) (names : List (List ℕ)) (run : Result Stretch NoPlace) where
  -- what was printed until a fault is a front of the outcome, whatever the fault is
  pub printed_cut_off : (one : RunFault) (a b c : Written) → OpensAll names a b → Prints {T = T} run (Err one) b c
      → IsCutOff (outcome_of_run names run) a c
  printed_cut_off (fault.NoPlace line serial) a b c opened printed = run_cut_off names run a b c opened (AppendsFrontOf-nothing
      (pieces_of run) b c printed)
  printed_cut_off (fault.TooManyMolecules step) a b c opened printed = run_cut_off names run a b c opened (AppendsFrontOf-all
      (pieces_of run) b c printed)
  printed_cut_off fault.OutputFault a b c opened printed = run_cut_off names run a b c opened printed
  printed_cut_off fault.OutOfMemory a b c opened printed = run_cut_off names run a b c opened printed

  -- an end that was told is the outcome
  pub end_told : (one : RunFault) (end : Ended) (a b c d : Written) → ended_by one ≡ Ok end → EndsAs {T = T} run (Err one)
      → OpensAll names a b → Prints {T = T} run (Err one) b c → Appends (error_line (line_of_end end)) c d → EndsWith
      (outcome_of_run names run) (status_of_end end) a d
  end_told (fault.NoPlace line serial) end a b c d is ends opened printed told =
      let same : ended.NoPlace line serial ≡ end = cc is in
      subst (λ (end : Ended). Appends (error_line (line_of_end end)) c d → EndsWith (outcome_of_run names run) (status_of_end end) a d) same
      (λ told. no_place_told names run line serial a b c d ends opened printed told) told
  end_told (fault.TooManyMolecules step) end a b c d is ends opened printed told =
      let same : ended.TooMany step ≡ end = cc is in
      subst (λ (end : Ended). Appends (error_line (line_of_end end)) c d → EndsWith (outcome_of_run names run) (status_of_end end) a d) same
      (λ told. over_told names run step a b c d ends opened printed told) told
  end_told fault.OutputFault end a b c d is ends opened printed told = absurd (cc is)
  end_told fault.OutOfMemory end a b c d is ends opened printed told = absurd (cc is)

  -- one whose line was cut off is a front of it
  pub end_cut_off : (one : RunFault) (end : Ended) (a b c d : Written) → ended_by one ≡ Ok end → EndsAs {T = T} run (Err one)
      → OpensAll names a b → Prints {T = T} run (Err one) b c → AppendsFrontOf (error_line (line_of_end end)) c d → IsCutOff
      (outcome_of_run names run) a d
  end_cut_off (fault.NoPlace line serial) end a b c d is ends opened printed told =
      let same : ended.NoPlace line serial ≡ end = cc is in
      subst (λ (end : Ended). AppendsFrontOf (error_line (line_of_end end)) c d → IsCutOff (outcome_of_run names run) a d) same
      (λ told. no_place_cut_off names run line serial a b c d ends opened printed told) told
  end_cut_off (fault.TooManyMolecules step) end a b c d is ends opened printed told =
      let same : ended.TooMany step ≡ end = cc is in
      subst (λ (end : Ended). AppendsFrontOf (error_line (line_of_end end)) c d → IsCutOff (outcome_of_run names run) a d) same
      (λ told. over_cut_off names run step a b c d ends opened printed told) told
  end_cut_off fault.OutputFault end a b c d is ends opened printed told = absurd (cc is)
  end_cut_off fault.OutOfMemory end a b c d is ends opened printed told = absurd (cc is)

-- no write failed in a run that has an end of its own
pub end_counts : (one : RunFault) (end : Ended) (before after : ℕ) → ended_by one ≡ Ok end
    → ((one ≡ fault.OutputFault → ⊥) → after ≡ before) → after ≡ before
end_counts (fault.NoPlace line serial) end before after is stays = stays (λ same. cc same)
end_counts (fault.TooManyMolecules step) end before after is stays = stays (λ same. cc same)
end_counts fault.OutputFault end before after is stays = absurd (cc is)
end_counts fault.OutOfMemory end before after is stays = absurd (cc is)

-- a run that was cut off tells whether a write failed
pub loss_counts : (one : RunFault) (why : Loss) (before after : ℕ) → ended_by one ≡ Err why
    → (one ≡ fault.OutputFault → Rose before after) → ((one ≡ fault.OutputFault → ⊥) → after ≡ before)
    → CountsLoss {T = Status} (Err why) before after
loss_counts (fault.NoPlace line serial) why before after is rose stays = absurd (cc is)
loss_counts (fault.TooManyMolecules step) why before after is rose stays = absurd (cc is)
loss_counts fault.OutputFault why before after is rose stays =
    let same : loss.Output ≡ why = cc is in
    subst (λ (why : Loss). CountsLoss {T = Status} (Err why) before after) same (rose refl)
loss_counts fault.OutOfMemory why before after is rose stays =
    let same : loss.Memory ≡ why = cc is in
    subst (λ (why : Loss). CountsLoss {T = Status} (Err why) before after) same (stays (λ same. cc same))

-- the count of an answer that passes a loss on
pub lost : (T : Type 0) (result : Result Status Loss) (why : Loss) (start before after : ℕ) → IsErrAnd result (λ answer. answer ≡ why)
    → before ≡ start → CountsLoss {T = T} (Err why) before after → CountsLoss result start after
lost T (Ok status) why start before after is same counts = absurd is
lost T (Err answer) why start before after is same counts =
    subst (λ (start : ℕ). CountsLoss {T = Status} (Err answer) start after) same
    (subst (λ (answer : Loss). CountsLoss {T = Status} (Err answer) before after) (sym is) (of_run why counts))
  where
    of_run : (why : Loss) → CountsLoss {T = T} (Err why) before after → CountsLoss {T = Status} (Err why) before after
    of_run loss.Output counts = counts
    of_run loss.Memory counts = counts
