use Rattle.std.proofs.Common.{◌≡◌, All, map, take}
use Rattle.smol_cells.specs.Numbered.{boxes_of_place}
use Rattle.smol_cells.specs.Ranges.{AreAmong}
use Rattle.smol_cells.proofs.make.ranges_of_places.Given as goal

abbrev pub invariant-loop-place : goal.invariant-loop-place
invariant-loop-place l = record {
  value : l.ranges.items ≡ map (boxes_of_place l.grid) (take l.place-index l.places);
  among : All (AreAmong l.grid.counts) l.ranges.items;
}
