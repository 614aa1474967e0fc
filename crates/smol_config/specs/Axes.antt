-- The axes, by what the lines before say.
use Rattle.std.specs.Prelude.{ℕ, ◌==◌, List, Option, None, Some, if◌then◌else◌}
use Rattle.smol_line.specs.declared.axes.Axes.{Axes}
use Rattle.smol_line.specs.declared.axes.Bounds.{Bounds}
use Rattle.smol_line.specs.LookingBack.{nearest}
use Rattle.smol_config.specs.Said.{Said, axes, walls}

abbrev pub said_axes : Said → Option ℕ
said_axes (axes dims) = Some dims
said_axes other = None

-- the number of axes in use, where a line before gives it
abbrev pub dims_of : List Said → Option ℕ
dims_of before = nearest said_axes before

abbrev pub said_bounds : ℕ → Said → Option Bounds
said_bounds axis (walls number bounds) = if number == axis then Some bounds else None
said_bounds axis other = None

-- the walls of an axis, where a line before gives them
abbrev pub bounds_of : ℕ → List Said → Option Bounds
bounds_of axis before = nearest (said_bounds axis) before

-- what the lines before give of the axes
abbrev pub axes_of : List Said → Axes
axes_of before = record { dims = dims_of before; x = bounds_of 0 before; y = bounds_of 1 before; z = bounds_of 2 before }
