-- A coordinate of a molecule that is placed, found by its axis.
use Rattle.std.specs.Prelude.{ℕ, ◌+◌, ◌*◌, ℤ, List, Option, None, Some, slice_get}
use Rattle.smol_types.specs.declared.placing.Given.{Given}
use Rattle.smol_types.specs.declared.wall.Wall.{Wall}
use Rattle.smol_meaning.specs.Placement.{coordinate_at, coordinate_unused}

-- a coordinate between two walls, or one on an axis without them
abbrev pub coordinate_between : ℕ → ℕ → ℕ → ℕ → Option Wall → Option Wall → Given → ℤ
coordinate_between seed serial try axis None upper given = coordinate_unused given
coordinate_between seed serial try axis (Some lower) None given = coordinate_unused given
coordinate_between seed serial try axis (Some lower) (Some upper) given = coordinate_at seed serial try axis lower upper given

-- the coordinate on an axis of the walls, of which there are two for each axis in use
abbrev pub coordinate_on : List Wall → ℕ → ℕ → ℕ → ℕ → Given → ℤ
coordinate_on walls seed serial try axis given =
    coordinate_between seed serial try axis (slice_get walls (2 * axis)) (slice_get walls (2 * axis + 1)) given
