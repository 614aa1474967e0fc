use Rattle.std.proofs.Common.{refl, ◌∙◌}
use Rattle.smol_edge.specs.Outlets.{Appends}
use Rattle.smol_edge.proofs.Telling.{Tells-weaker}
use Rattle.smol_run.specs.declared.status.Status.TheVariants as status
use Rattle.smol_run.specs.Ends.{EndsWith}
use Rattle.smol_run.specs.Outcome.{outcome_of_runs}
use Rattle.smol_run.proofs.Cuts.{ended_as, goes_cut_off, told_at_once, told_front}
use Rattle.smol_run.proofs.Ensembles.{ends_alike, table_is}
use Rattle.smol_run.proofs.Openings.{none_opened}
use Rattle.smol_run.proofs.ensemble.run_ensemble.Goals as goal

pub returns-in_err-ends-clause-ended : goal.returns-in_err-ends-clause-ended
returns-in_err-ends-clause-ended g c =
    let outcome = outcome_of_runs c.args.config.now c.args.first c.args.count in
    goes_cut_off outcome c.from_residual.result _ _ c.from_residual.ensures.0 (told_at_once outcome (g.K.Outlets.told c.args.outlets.now))

pub table-requires-clause-alike : goal.table-requires-clause-alike
table-requires-clause-alike g c =
    rw c.deref.ensures.value (ends_alike c.args.config.now c.args.first c.in_ok-ends.ends.items c.in_ok-ends.ensures.given)

pub returns-in_err-text-clause-ended : goal.returns-in_err-text-clause-ended
returns-in_err-text-clause-ended g c =
    let outcome = outcome_of_runs c.args.config.now c.args.first c.args.count in
    goes_cut_off outcome c.from_residual-in_err-text.result _ _ c.from_residual-in_err-text.ensures.0
    (told_at_once outcome (g.K.Outlets.told c.args.outlets.now))

pub returns-in_err-put_all-clause-ended : goal.returns-in_err-put_all-clause-ended
returns-in_err-put_all-clause-ended g c =
    let outcome = outcome_of_runs c.args.config.now c.args.first c.args.count in
    let is = table_is c.args.config.now c.args.first c.args.count c.in_ok-ends.ends.items c.in_ok-text.text.items
    c.in_ok-ends.ensures.count c.in_ok-ends.ensures.given (rw c.deref.ensures.value at c.in_ok-text.ensures) in
    goes_cut_off outcome c.from_residual-in_err-put_all.result _ _ c.from_residual-in_err-put_all.ensures.0
    (told_front outcome _ _ refl (rw (c.deref-2.ensures.value ∙ is) at c.in_err-put_all.ensures.front_appended))

pub returns-clause-ended : goal.returns-clause-ended
returns-clause-ended g c =
    let outcome = outcome_of_runs c.args.config.now c.args.first c.args.count in
    let is = table_is c.args.config.now c.args.first c.args.count c.in_ok-ends.ends.items c.in_ok-text.text.items
    c.in_ok-ends.ensures.count c.in_ok-ends.ensures.given (rw c.deref.ensures.value at c.in_ok-text.ensures) in
    Tells-weaker _ _ (Appends outcome.pieces) (EndsWith outcome status.Done)
    (λ x y wrote. ended_as outcome status.Done x x y refl (none_opened x) wrote)
    (rw (c.deref-2.ensures.value ∙ is) at c.in_ok-put_all.ensures.appended)
