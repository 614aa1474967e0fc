-- What is left of the things in boxes, row by row.
use Rattle.std.specs.Prelude.{ℕ, ◌+◌, ◌-◌, ◌*◌, ◌++◌, List, flat_map}
use Rattle.smol_cells.specs.declared.boxes.Boxes.{Boxes}
use Rattle.smol_cells.specs.declared.cells.Cells.{Cells}
use Rattle.smol_cells.specs.declared.touching.Touching.{Touching}
use Rattle.smol_cells.specs.Kept.{items_between, items_in_layer, items_in_row}
use Rattle.smol_cells.specs.Placed.{counted}
use Rattle.smol_cells.specs.Ranges.{last_on}

-- the things in the rows behind one: those of its layer, and those of the layers behind
abbrev pub behind_row : Cells → Boxes → ℕ → ℕ → List ℕ
behind_row cells boxes z y =
    flat_map (items_in_row cells boxes z) (counted (y + 1) (last_on boxes 1 - y)) ++ flat_map (items_in_layer cells boxes) (counted (z + 1) (last_on boxes 2 - z))

-- the indexes that are left: those of the row, and those behind it
abbrev pub touching_left : Touching → List ℕ
touching_left touching =
    items_between touching.cells.now touching.at touching.end ++ behind_row touching.cells.now touching.boxes touching.z touching.y

-- a number that is lower in each later row
abbrev pub rows_left : Touching → ℕ
rows_left touching = (last_on touching.boxes 1 - touching.y) + (last_on touching.boxes 2 - touching.z) * (last_on touching.boxes 1 + 1)
