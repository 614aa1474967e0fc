use Rattle.std.proofs.Common.{Err, ap, sym, ◌∙◌}
use Rattle.smol_edge.specs.Outlets.{Appends, AppendsFrontOf}
use Rattle.smol_edge.proofs.Telling.{Tells-then, Tells-weaker}
use Rattle.smol_meaning.specs.Run.{run_of}
use Rattle.smol_loop.specs.Simulation.{Prints, pieces_of}
use Rattle.smol_run.specs.Ends.{EndsWith, IsCutOff}
use Rattle.smol_run.specs.Opening.{OpensAll, OpensFront}
use Rattle.smol_run.specs.Outcome.{error_line, outcome_of_run}
use Rattle.smol_run.specs.Told.{line_of_end, status_of_end}
use Rattle.smol_run.specs.declared.loss.Loss.TheVariants as loss
use Rattle.smol_run.specs.declared.status.Status.{Status}
use Rattle.smol_run.specs.declared.status.Status.TheVariants as status
use Rattle.smol_run.proofs.Cuts.{cut_in_opening, goes_cut_off, names_of_run, run_ended, told_after}
use Rattle.smol_run.proofs.EndedRuns.{end_counts, end_cut_off, end_told, loss_counts, lost, printed_cut_off}
use Rattle.smol_run.proofs.run.run_config.Goals as goal

pub returns-in_err-open_all-clause-ended : goal.returns-in_err-open_all-clause-ended
returns-in_err-open_all-clause-ended g c =
    let names = c.args.config.now.outputs in
    let outcome = outcome_of_run names (run_of c.args.config.now c.args.seed) in
    goes_cut_off outcome c.from_residual.result _ _ c.from_residual.ensures.0
    (Tells-weaker _ _ (OpensFront names) (IsCutOff outcome)
    (λ x y front. cut_in_opening outcome names x y (names_of_run names (run_of c.args.config.now c.args.seed)) front)
    (rw c.outputs.ensures.value at c.in_err-open_all.ensures.front_opened))

pub returns-in-Ok-clause-ended : goal.returns-in-Ok-clause-ended
returns-in-Ok-clause-ended g c =
    let names = c.args.config.now.outputs in
    let run = run_of c.args.config.now c.args.seed in
    Tells-then _ _ _ (OpensAll names) (Appends (pieces_of run)) (EndsWith (outcome_of_run names run) status.Done)
    (λ x y z opened wrote. run_ended names run x y z c.in-Ok.ensures.ended opened wrote)
    (rw c.outputs.ensures.value at c.in_ok-open_all.ensures.opened) c.in-Ok.ensures.printed

-- the fault cut the run off
pub returns-in_err-end-in-Err-clause-ended : goal.returns-in_err-end-in-Err-clause-ended
returns-in_err-end-in-Err-clause-ended g c =
    let names = c.args.config.now.outputs in
    let run = run_of c.args.config.now c.args.seed in
    goes_cut_off (outcome_of_run names run) c.from_residual-in_err-end-in-Err.result _ _ c.from_residual-in_err-end-in-Err.ensures.0
    (Tells-then _ _ _ (OpensAll names) (Prints {T = Unit {0}} run (Err c.in-Err.fault)) (IsCutOff (outcome_of_run names run))
    (λ x y z opened printed. printed_cut_off (Unit {0}) names run c.in-Err.fault x y z opened printed)
    (rw c.outputs.ensures.value at c.in_ok-open_all.ensures.opened) c.in-Err.ensures.printed)

-- there was no memory for the line
pub returns-in_err-text_of_end-in-Err-clause-ended : goal.returns-in_err-text_of_end-in-Err-clause-ended
returns-in_err-text_of_end-in-Err-clause-ended g c =
    let names = c.args.config.now.outputs in
    let run = run_of c.args.config.now c.args.seed in
    goes_cut_off
    (outcome_of_run names run) c.from_residual-in_err-text_of_end-in-Err.result _ _ c.from_residual-in_err-text_of_end-in-Err.ensures.0
    (Tells-then _ _ _ (OpensAll names) (Prints {T = Unit {0}} run (Err c.in-Err.fault)) (IsCutOff (outcome_of_run names run))
    (λ x y z opened printed. printed_cut_off (Unit {0}) names run c.in-Err.fault x y z opened printed)
    (rw c.outputs.ensures.value at c.in_ok-open_all.ensures.opened) c.in-Err.ensures.printed)

-- the line was cut off
pub returns-in_err-tell-in-Err-clause-ended : goal.returns-in_err-tell-in-Err-clause-ended
returns-in_err-tell-in-Err-clause-ended g c =
    let names = c.args.config.now.outputs in
    let run = run_of c.args.config.now c.args.seed in
    let end = c.in_ok-end-in-Err.end in
    goes_cut_off (outcome_of_run names run) c.from_residual-in_err-tell-in-Err.result _ _ c.from_residual-in_err-tell-in-Err.ensures.0
    (told_after (OpensAll names) (Prints {T = Unit {0}} run (Err c.in-Err.fault)) (AppendsFrontOf (error_line (line_of_end end)))
    (IsCutOff (outcome_of_run names run)) _ _ _ _
    (λ x y z w opened printed told. end_cut_off (Unit {0}) names run c.in-Err.fault end x y z w
    (sym c.ended_by.ensures ∙ c.in_ok-end-in-Err.was) c.in-Err.ensures.ended opened printed told)
    (rw c.outputs.ensures.value at c.in_ok-open_all.ensures.opened)
    c.in-Err.ensures.printed
    (rw (c.deref.ensures.value ∙ c.in_ok-text_of_end-in-Err.ensures) at c.in_err-tell-in-Err.ensures.front_told))

-- the end is told
pub returns-in_ok-tell-in-Err-clause-ended : goal.returns-in_ok-tell-in-Err-clause-ended
returns-in_ok-tell-in-Err-clause-ended g c =
    let names = c.args.config.now.outputs in
    let run = run_of c.args.config.now c.args.seed in
    let end = c.in_ok-end-in-Err.end in
    rw c.status_of_end.ensures.value
    (told_after (OpensAll names) (Prints {T = Unit {0}} run (Err c.in-Err.fault)) (Appends (error_line (line_of_end end))) (EndsWith
    (outcome_of_run names run) (status_of_end end)) _ _ _ _
    (λ x y z w opened printed told. end_told (Unit {0}) names run c.in-Err.fault end x y z w
    (sym c.ended_by.ensures ∙ c.in_ok-end-in-Err.was) c.in-Err.ensures.ended opened printed told)
    (rw c.outputs.ensures.value at c.in_ok-open_all.ensures.opened)
    c.in-Err.ensures.printed
    (rw (c.deref.ensures.value ∙ c.in_ok-text_of_end-in-Err.ensures) at c.in_ok-tell-in-Err.ensures.told))

-- a write failed in the run, or none
pub returns-in_err-end-in-Err-clause-faults : goal.returns-in_err-end-in-Err-clause-faults
returns-in_err-end-in-Err-clause-faults g c =
    lost Status c.from_residual-in_err-end-in-Err.result c.in_err-end-in-Err.field-0.0 (g.K.Outlets.faults c.args.outlets.now)
    (g.K.Outlets.faults c.open_all.new.outlets) (g.K.Outlets.faults c.simulate.new.outlets)
    c.from_residual-in_err-end-in-Err.ensures.1 c.in_ok-open_all.ensures.no_fault
    (loss_counts c.in-Err.fault c.in_err-end-in-Err.field-0.0 (g.K.Outlets.faults c.open_all.new.outlets)
    (g.K.Outlets.faults c.simulate.new.outlets)
    (sym c.ended_by.ensures ∙ c.in_err-end-in-Err.was) (λ is. c.in-Err.ensures.cause (ap (λ fault. Err fault) is))
    (λ other. c.in-Err.ensures.no_fault (λ same. other (cc))))

-- none failed in a run that has an end
pub returns-in_err-text_of_end-in-Err-clause-faults : goal.returns-in_err-text_of_end-in-Err-clause-faults
returns-in_err-text_of_end-in-Err-clause-faults g c =
    lost Status c.from_residual-in_err-text_of_end-in-Err.result loss.Memory (g.K.Outlets.faults c.args.outlets.now)
    (g.K.Outlets.faults c.open_all.new.outlets) (g.K.Outlets.faults c.simulate.new.outlets)
    c.from_residual-in_err-text_of_end-in-Err.ensures.1 c.in_ok-open_all.ensures.no_fault
    (end_counts c.in-Err.fault c.in_ok-end-in-Err.end (g.K.Outlets.faults c.open_all.new.outlets)
    (g.K.Outlets.faults c.simulate.new.outlets)
    (sym c.ended_by.ensures ∙ c.in_ok-end-in-Err.was) (λ other. c.in-Err.ensures.no_fault (λ same. other (cc))))

pub returns-in_err-tell-in-Err-clause-faults : goal.returns-in_err-tell-in-Err-clause-faults
returns-in_err-tell-in-Err-clause-faults g c =
    lost (Unit {0}) c.from_residual-in_err-tell-in-Err.result c.in_err-tell-in-Err.field-0.0 (g.K.Outlets.faults c.args.outlets.now)
    (g.K.Outlets.faults c.simulate.new.outlets) (g.K.Outlets.faults c.tell.new.outlets)
    c.from_residual-in_err-tell-in-Err.ensures.1
    (end_counts c.in-Err.fault c.in_ok-end-in-Err.end (g.K.Outlets.faults c.open_all.new.outlets)
    (g.K.Outlets.faults c.simulate.new.outlets)
    (sym c.ended_by.ensures ∙ c.in_ok-end-in-Err.was) (λ other. c.in-Err.ensures.no_fault (λ same. other (cc)))
    ∙ c.in_ok-open_all.ensures.no_fault)
    c.in_err-tell-in-Err.ensures.faults

pub returns-in_ok-tell-in-Err-clause-faults : goal.returns-in_ok-tell-in-Err-clause-faults
returns-in_ok-tell-in-Err-clause-faults g c =
    c.in_ok-tell-in-Err.ensures.faults
    ∙ end_counts c.in-Err.fault c.in_ok-end-in-Err.end (g.K.Outlets.faults c.open_all.new.outlets)
    (g.K.Outlets.faults c.simulate.new.outlets)
    (sym c.ended_by.ensures ∙ c.in_ok-end-in-Err.was) (λ other. c.in-Err.ensures.no_fault (λ same. other (cc)))
    ∙ c.in_ok-open_all.ensures.no_fault
