use Rattle.std.proofs.Common.{refl, ◌∙◌}
use Rattle.smol_run.specs.Outcome.{refused}
use Rattle.smol_run.proofs.Cuts.{goes_cut_off, told_at_once, told_front}
use Rattle.smol_run.proofs.program.refuse.Goals as goal

pub returns-in_err-fault_text-clause-ended : goal.returns-in_err-fault_text-clause-ended
returns-in_err-fault_text-clause-ended g c =
    goes_cut_off (refused c.args.line c.args.why.now) c.from_residual.result _ _ c.from_residual.ensures.0
    (told_at_once (refused c.args.line c.args.why.now) (g.K.Outlets.told c.args.outlets.now))

pub returns-in_err-tell-clause-ended : goal.returns-in_err-tell-clause-ended
returns-in_err-tell-clause-ended g c =
    goes_cut_off (refused c.args.line c.args.why.now) c.from_residual-in_err-tell.result _ _ c.from_residual-in_err-tell.ensures.0
    (told_front (refused c.args.line c.args.why.now) _ _ refl
    (rw (c.deref.ensures.value ∙ c.in_ok-fault_text.ensures) at c.in_err-tell.ensures.front_told))
