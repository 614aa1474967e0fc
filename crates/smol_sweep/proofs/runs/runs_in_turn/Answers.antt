use Rattle.std.proofs.Common.{rules}
use Rattle.smol_sweep.proofs.InOrder.{given_more}
use Rattle.smol_sweep.proofs.runs.runs_in_turn.Goals as goal

pub loop-made-preserved : goal.loop-made-preserved
loop-made-preserved g c =
    let so_far = c.loop-made.invariant in
    let gives = g.O.OneRun.gives c.args.one.now in
    let last = rw c.seed_at.ensures at c.in_ok-run.ensures in
    record {
      count = search rules;
      given = rw c.in_ok-push.ensures.items
          (given_more gives c.args.first c.args.number c.loop-made.outs.items c.in_ok-run.field-0 so_far.given (rw so_far.count last));
    }
