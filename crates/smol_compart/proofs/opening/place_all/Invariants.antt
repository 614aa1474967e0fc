use Rattle.std.proofs.Common.{◌≡◌, ◌+◌, take, drop, sum_by, Ok}
use Rattle.smol_types.specs.Placings.{placed_by}
use Rattle.smol_meaning.specs.Placement.{placed_from, placed_together}
use Rattle.smol_compart.proofs.opening.place_all.Given as goal

-- the molecules so far and what is left to place are what all statements place
abbrev pub invariant-loop-placing : goal.invariant-loop-placing
invariant-loop-placing l = record {
  placed : placed_together (Ok l.mols.items) (placed_from l.config l.streams l.next (drop l.placing-index l.placing-items))
      ≡ placed_from l.config l.streams 1 l.placing-items;
  next : l.next ≡ 1 + sum_by placed_by (take l.placing-index l.placing-items);
  seed : l.streams ≡ l.initial.streams;
}
