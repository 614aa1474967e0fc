use Rattle.std.proofs.Common.{◌∙◌, length-drop, arith}
use Rattle.std.proofs.lemmas.List.{take_rest}
use Rattle.smol_edge.proofs.Telling.{Tells-then}
use Rattle.smol_edge.proofs.Pieces.{Appends-further}
use Rattle.smol_edge.proofs.put.put_all.Goals as goal

-- the front that was written and the front of the rest are one longer front
pub loop-written-preserved : goal.loop-written-preserved
loop-written-preserved g c =
    let step = rw take_rest at c.in_ok-written.ensures in
    record {
      within = omega (arith, step.within, length-drop c.loop-written.written c.args.bytes.now);
      appended =
          Tells-then _ _ _ _ _ _ (λ a b d first second. Appends-further c.args.outlet c.loop-written.written c.in_ok-written.field-0 c.args.bytes.now a b d first second)
          c.loop-written.invariant.appended step.appended;
      opened_stays = c.in_ok-written.ensures.opened_stays ∙ c.loop-written.invariant.opened_stays;
      no_fault = c.in_ok-written.ensures.no_fault ∙ c.loop-written.invariant.no_fault;
    }
