use Rattle.std.proofs.Common.{◌≡◌, ◌++◌, map, take}
use Rattle.std.specs.List.{items_where_true}
use Rattle.smol_meaning.specs.Encounters.{encounters_of, event_of_two}
use Rattle.smol_meaning.specs.Step.{remains}
use Rattle.smol_step.proofs.together.react_together.Given as goal

-- the encounters so far that fired have come to a reaction
abbrev pub invariant-loop-i : goal.invariant-loop-i
invariant-loop-i l = record {
  events : l.reacting.events.items
      ≡ l.initial.reacting.events.items
      ++ map (event_of_two l.config l.initial.streams l.k)
      (items_where_true (take l.i l.fired) (take l.i (encounters_of l.config l.initial.streams l.k l.mols)));
  free : l.reacting.free.items
      ≡ map (remains l.config l.initial.streams l.k (items_where_true (take l.i l.fired) (take l.i (encounters_of l.config l.initial.streams l.k l.mols)))) l.mols;
  seed : l.streams ≡ l.initial.streams;
}
