-- Words that are coordinates of molecules, in ticks.
use Rattle.std.specs.Prelude.{ℕ, ◌&&◌, ℤ, pos, ◌+ℤ◌, ◌-ℤ◌, ◌*ℤ◌, int_le, List, Result, Ok, Err, if◌then◌else◌}
use Rattle.std.specs.Ordering.{int_eq}
use Rattle.smol_types.specs.declared.fault.Kind.{Kind}
use Rattle.smol_types.specs.declared.fault.Kind.TheVariants.{OutsideWalls}
use Rattle.smol_line.specs.declared.axes.Bounds.{Bounds}
use Rattle.smol_line.specs.Checks.{with_value}
use Rattle.smol_line.specs.Length.{micros_in}

-- a molecule stands half a micro above its given coordinate, and on the high wall half a micro below
abbrev pub ticks_within : Bounds → ℤ → ℤ
ticks_within bounds x = if int_eq x bounds.high.0 then pos 2 *ℤ x -ℤ pos 1 else pos 2 *ℤ x +ℤ pos 1

-- a length that lies from the low wall to the high one, as the coordinate of a molecule
abbrev pub inside : Bounds → ℤ → Result ℤ Kind
inside bounds x = if int_le bounds.low.0 x && int_le x bounds.high.0 then Ok (ticks_within bounds x) else Err OutsideWalls

-- the coordinate of a molecule between two walls
abbrev pub coordinate_in : Bounds → List ℕ → Result ℤ Kind
coordinate_in bounds word = with_value (micros_in word) (inside bounds)
