use Rattle.std.proofs.Common.{◌≡◌, ◌+◌, ◌*◌, ◌≤◌, ◌++◌, drop, length}
use Rattle.smol_meaning.specs.Events.{births_of}
use Rattle.smol_births.proofs.birth.births.Given as goal

-- what is born so far, and what the events that are left make
abbrev pub invariant-loop-event : goal.invariant-loop-event
invariant-loop-event l = record {
  born : l.births.items ++ births_of l.config (l.next + length l.births.items) (drop l.event-index l.events) ≡ births_of l.config l.next l.events;
  count : length l.births.items ≤ 16 * l.event-index;
}
