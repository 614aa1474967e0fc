use Rattle.std.proofs.Common.{◌≡◌, All, map}
use Rattle.smol_cells.specs.declared.entries.Entry.{Entry}
use Rattle.smol_cells.specs.Entries.{IsOfPlace}
use Rattle.smol_cells.specs.Placed.{indexes}
use Rattle.smol_cells.proofs.entries.entries_of_places.Given as goal

abbrev pub invariant-loop-index : goal.invariant-loop-index
invariant-loop-index l = record {
  places : All (IsOfPlace l.grid l.places) l.entries.items;
  indexes : map (λ (entry : Entry). entry.index) l.entries.items ≡ indexes l.index;
}
