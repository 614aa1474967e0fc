-- What iterators over what is near have left.
use Rattle.std.specs.Prelude.{ℕ, ◌-◌, List, filter}
use Rattle.smol_cells.specs.declared.near.Near.{Near}
use Rattle.smol_cells.specs.Kept.{items_in}
use Rattle.smol_cells.specs.Next.{has_number}
use Rattle.smol_cells.specs.Placed.{counted}

-- the indexes in the boxes that are left, in order
abbrev pub near_left : Near → List ℕ
near_left near = filter (has_number (items_in near.cells.now near.boxes)) (counted near.next (near.cells.now.count - near.next))
