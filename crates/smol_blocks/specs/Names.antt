-- What the lines before a block give, as a caller hands it over.
use Rattle.std.specs.Prelude.{◌≤◌, ℕ, Bool, true, false, not, ◌&&◌, ◌==◌, pos, int_div, List, length, Option, None, Some}
use Rattle.std.specs.List.{find}
use Rattle.smol_types.specs.declared.wall.Wall.{Wall}
use Rattle.smol_types.specs.Limits.{most_panels, most_species, most_surfaces}
use Rattle.smol_line.specs.declared.axes.Axes.{Axes}
use Rattle.smol_line.specs.declared.axes.Bounds.{Bounds}
use Rattle.smol_line.specs.Axes.{most_axes}
use Rattle.smol_blocks.specs.declared.names.Names.{Names}

-- two sides are the same
abbrev pub same_side : Bool → Bool → Bool
same_side true other = other
same_side false other = not other

-- a wall stands on this side of this axis
abbrev pub is_wall_of : ℕ → Bool → Wall → Bool
is_wall_of axis upper wall = (wall.axis == axis) && same_side wall.upper upper

-- the low and the high wall of an axis as its bounds, where it has both. A wall at 2m ticks stands at m micros
abbrev pub bounds_between : Option Wall → Option Wall → Option Bounds
bounds_between None high = None
bounds_between (Some low) None = None
bounds_between (Some low) (Some high) =
    Some (record { low = record { 0 = int_div low.plane (pos 2) }; high = record { 0 = int_div high.plane (pos 2) }; letter = low.letter })

-- the bounds of an axis, by the first of these walls that stands on each of its sides
abbrev pub bounds_among : List Wall → ℕ → Option Bounds
bounds_among walls axis = bounds_between (find (is_wall_of axis false) walls) (find (is_wall_of axis true) walls)

-- so many axes, with the bounds that these walls are
abbrev pub axes_among : ℕ → List Wall → Axes
axes_among dims walls =
    record { dims = Some dims; x = bounds_among walls 0; y = bounds_among walls 1; z = bounds_among walls 2 }

-- the axes that names give
abbrev pub axes_of : Names → Axes
axes_of names = axes_among names.dims names.walls

-- there are one to three axes, and no more species, surfaces and panels than there may be
pub record AreNames (names : Names) : Type 0 where
  pub least : 1 ≤ names.dims
  pub most : names.dims ≤ most_axes
  pub species : length names.species ≤ most_species
  pub surfaces : length names.surfaces ≤ most_surfaces
  pub panels : names.panels ≤ most_panels
