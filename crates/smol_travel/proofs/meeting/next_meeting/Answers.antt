use Rattle.std.proofs.Common.{[], ◌+◌, arith}
use Rattle.smol_sheets.proofs.Numbered.{sheet_count}
use Rattle.smol_travel.proofs.Looking.{next_more, next_of_all, next_same}
use Rattle.smol_travel.proofs.meeting.next_meeting.Goals as goal
use Rattle.smol_travel.proofs.meeting.next_meeting.Goals.{then-is_within, else-is_within}

pub loop-number-preserved : goal.loop-number-preserved
loop-number-preserved c =
    let draft = c.args.panels.now in
    let more = next_more draft c.args.leg.now c.args.last.now c.loop-number.number c.loop-number.next c.loop-number.invariant in
    elim c.if-is_within.branch [
      | then-is_within w ↦ rw w.next-is (w.sooner-next.ensures (c.loop-number.number + 1) [] more)
      | else-is_within w ↦ rw w.next-is
          (next_same draft c.args.leg.now c.args.last.now (c.loop-number.number + 1) c.loop-number.number [] c.loop-number.next more
          (λ m h. c.is_within.ensures c.args.leg.now c.requires c.span_of-span.ensures w.if-is_within.false m h.moment))
    ]

pub returns-clause-next : goal.returns-clause-next
returns-clause-next c =
    let draft = c.args.panels.now in
    next_of_all draft c.args.leg.now c.args.last.now c.loop-number.number c.loop-number.next
    (omega (arith, sheet_count draft, c.loop-number-test.false, c.sheets-number-end.ensures.count)) c.loop-number.invariant
