use Rattle.std.proofs.Common.{◌≡◌, ◌+◌, ◌-◌, Ok}
use Rattle.smol_meaning.specs.Placement.{placed_many, placed_together}
use Rattle.smol_types.specs.Placings.{placed_by}
use Rattle.smol_compart.proofs.opening.place_many.Given as goal

-- the molecules so far and those that are left are what the statement places behind the earlier ones
abbrev pub invariant-loop-i : goal.invariant-loop-i
invariant-loop-i l = record {
  placed : placed_together (Ok l.mols.items) (placed_many l.config l.streams l.placing (l.serial + l.i) (l.i-end - l.i))
      ≡ placed_together (Ok l.initial.mols.items) (placed_many l.config l.streams l.placing l.serial (placed_by l.placing));
  seed : l.streams ≡ l.initial.streams;
}
