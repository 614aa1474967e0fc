use Rattle.std.proofs.Common.{◌≡◌, map, take}
use Rattle.smol_meaning.specs.Events.{is_free, lone_events}
use Rattle.smol_step.proofs.alone.react_alone.Given as goal

-- the molecules so far have reacted, or not
abbrev pub invariant-loop-i : goal.invariant-loop-i
invariant-loop-i l = record {
  free : l.free.items ≡ map (is_free l.config l.initial.streams l.k) (take l.i l.mols);
  events : l.events.items ≡ lone_events l.config l.initial.streams l.k (take l.i l.mols);
  seed : l.streams ≡ l.initial.streams;
}
