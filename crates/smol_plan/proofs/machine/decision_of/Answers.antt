use Rattle.std.proofs.Common.{◌∙◌, sym, ap}
use Rattle.smol_plan.proofs.TakenLemmas.{fires_free, TellsTaken-after}
use Rattle.smol_plan.proofs.machine.decision_of.Goals as goal

pub returns-clause-fired : goal.returns-clause-fired
returns-clause-fired c =
    ap (λ d. d.fired) c.after.ensures ∙ rw (c.is_taken-low.ensures, c.is_taken-high.ensures) (sym (fires_free c.args.plan.now c.args.pair c.requires.pair))

pub returns-clause-taken : goal.returns-clause-taken
returns-clause-taken c =
    TellsTaken-after c.args.plan.now c.args.pair _ _ _ c.requires.pair c.is_taken-low.ensures c.is_taken-high.ensures c.after.ensures
