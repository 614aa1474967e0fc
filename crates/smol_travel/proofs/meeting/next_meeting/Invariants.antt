use Rattle.std.proofs.Common.{[]}
use Rattle.smol_travel.specs.Looked.{IsNextBut}
use Rattle.smol_travel.proofs.meeting.next_meeting.Given as goal

-- the next meeting among the panels and the walls looked at so far
abbrev pub invariant-loop-number : goal.invariant-loop-number
invariant-loop-number l = IsNextBut l.panels l.leg l.last l.number [] l.next
