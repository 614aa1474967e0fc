use Rattle.std.proofs.Common.{◌≡◌, ◌+◌, length, arith}
use Rattle.std.proofs.lemmas.Result.{IfOk-at_ok}
use Rattle.smol_sweep.specs.Seeds.{AreGiven}
use Rattle.smol_sweep.proofs.InOrder.{given_both}
use Rattle.smol_sweep.proofs.runs.+fn-runs_in_parts-join+arg2+fn-runs_in_parts-join+arg3+runs_in_parts.Goals as goal

pub returns-clause-given : goal.returns-clause-given
returns-clause-given g t c =
    let gives = g.O.OneRun.gives c.args.one.now in
    let count = IfOk-at_ok (λ outs. length outs.items ≡ _) c.in_ok-outs.was c.join-front.ensures.first.0 in
    given_both gives c.args.first c.args.number _ _ _ _ c.in_ok-append.ensures.items (omega (arith, count))
    (IfOk-at_ok (λ outs. AreGiven gives _ _ outs.items) c.in_ok-outs.was c.join-front.ensures.first.1)
    (IfOk-at_ok (λ outs. AreGiven gives _ _ outs.items) c.in_ok-rest.was c.join-front.ensures.second.1)
