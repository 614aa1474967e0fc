-- The panels and walls of a configuration, and what each face of theirs does to a species.
use Rattle.std.specs.Prelude.{ℕ, ◌==◌, ◌&&◌, Bool, true, false, not, List, [], ◌∷◌, ◌++◌, length, map, find, ℤ, pos, ◌-ℤ◌, if◌then◌else◌, Option, Some, None, slice_get, slice_set, nat_lt}
use Rattle.std.specs.List.{enumerate_from}
use Rattle.smol_geom.specs.declared.cuboid.Cuboid.{Cuboid}
use Rattle.smol_geom.specs.declared.place.Place.{Place}
use Rattle.smol_geom.specs.declared.place.Step3.{Step3}
use Rattle.smol_geom.specs.declared.rect.Rect.{Rect}
use Rattle.smol_geom.specs.Axes.{on_axis}
use Rattle.smol_types.specs.declared.draft.Draft.{Draft}
use Rattle.smol_types.specs.declared.surface.Action.{Action}
use Rattle.smol_types.specs.declared.surface.Action.TheVariants as action
use Rattle.smol_types.specs.declared.surface.Face.{Face}
use Rattle.smol_types.specs.declared.surface.Face.TheVariants.{Front, Back}
use Rattle.smol_types.specs.declared.surface.Panel.{Panel}
use Rattle.smol_types.specs.declared.wall.Wall.{Wall}
use Rattle.smol_types.specs.Actions.{action_of, change_of, destination_of}
use Rattle.smol_meaning.specs.declared.sheet.Sheet.TheVariants.{Rectangle, Plane}
use Rattle.smol_meaning.specs.declared.way.Effect.{Effect}
use Rattle.smol_meaning.specs.declared.way.Response.{Response}
use Rattle.smol_meaning.specs.declared.way.Response.TheVariants.{Reflect, Absorb, Jump, Pass}
use Rattle.smol_meaning.specs.declared.way.Travelled.{Travelled}
use Rattle.smol_meaning.specs.Plates.{Plate, are_same}
use Rattle.smol_meaning.specs.Way.{way_among}
use Rattle.smol_meaning.specs.Box.{IsClosed}

-- the face of arrival. The front is the side of greater coordinates or not, and the motion goes up or not
abbrev pub arrival_face : Bool → Bool → Face
arrival_face greater up = if are_same greater up then Back else Front

-- whether motion that leaves a face outwards goes up, where the front is the side of greater coordinates or not
abbrev pub leaves_up : Bool → Face → Bool
leaves_up greater Front = greater
leaves_up greater Back = not greater

-- what an action is to a molecule that arrives on the panel or wall of a number, where a jump is this one
abbrev pub response_by : ℕ → Action → Response → Response
response_by number action.Reflect jump = Reflect
response_by number action.Absorb jump = Absorb number
response_by number action.Jump jump = jump
response_by number action.Transmit jump = Pass

-- how far the low corner of the second rectangle is from that of the first
abbrev pub corner_gap : Rect → Rect → List ℤ
corner_gap from to =
    (on_axis to.low 0 -ℤ on_axis from.low 0) ∷ (on_axis to.low 1 -ℤ on_axis from.low 1) ∷ (on_axis to.low 2 -ℤ on_axis from.low 2) ∷ []

-- a jump from a panel to a face of another, which the molecule leaves outwards
abbrev pub jump_between : Panel → Option Panel → Face → Response
jump_between panel None face = Pass
jump_between panel (Some other) face = Jump (corner_gap panel.rect other.rect) (leaves_up other.greater face)

-- a jump from a panel to a destination
abbrev pub panel_jump : List Panel → Panel → Option (ℕ × Face) → Response
panel_jump panels panel None = Pass
panel_jump panels panel (Some to) = jump_between panel (slice_get panels to.0) to.1

-- what a panel does on a face
abbrev pub panel_response : Draft → ℕ → ℕ → Panel → Face → Response
panel_response draft species number panel face =
    response_by number (action_of draft number face species) (panel_jump draft.panels panel (destination_of panel face))

-- what it does on a face, and what it makes of the species
abbrev pub panel_effect : Draft → ℕ → Panel → Face → ℕ → Effect
panel_effect draft number panel face species =
    record { response = panel_response draft species number panel face; species = change_of draft number face species }

abbrev pub panel_plate : Draft → ℕ × Panel → Plate
panel_plate draft entry = record {
  sheet = Rectangle entry.1.rect;
  from_below = panel_effect draft entry.0 entry.1 (arrival_face entry.1.greater true);
  from_above = panel_effect draft entry.0 entry.1 (arrival_face entry.1.greater false);
}

-- the other wall of the same axis
abbrev pub opposite_of : List Wall → Wall → Option Wall
opposite_of walls wall = find (λ (other : Wall). (other.axis == wall.axis) && not (are_same other.upper wall.upper)) walls

-- a jump from a wall to another: along its own axis, and with the direction that the motion has
abbrev pub wall_jump : Wall → Bool → Option Wall → Response
wall_jump wall up None = Pass
wall_jump wall up (Some other) = Jump (slice_set (pos 0 ∷ pos 0 ∷ pos 0 ∷ []) wall.axis (other.plane -ℤ wall.plane)) up

-- what a wall does to motion that goes up or not. Its front is turned inwards: that of a lower wall is the side of greater
-- coordinates
abbrev pub wall_response : Draft → ℕ → ℕ → Wall → Bool → Response
wall_response draft species number wall up =
    response_by number (action_of draft number (arrival_face (not wall.upper) up) species)
    (wall_jump wall up (opposite_of draft.walls wall))

-- what it does to a species, which it leaves as it is
abbrev pub wall_effect : Draft → ℕ → Wall → Bool → ℕ → Effect
wall_effect draft number wall up species = record { response = wall_response draft species number wall up; species = species }

abbrev pub wall_plate : Draft → ℕ × Wall → Plate
wall_plate draft entry = record {
  sheet = Plane entry.1.axis entry.1.plane;
  from_below = wall_effect draft entry.0 entry.1 true;
  from_above = wall_effect draft entry.0 entry.1 false;
}

-- the panels and walls in the order of their numbers: panels, and walls behind them
unfoldable pub plates_of : Draft → List Plate
plates_of draft =
    map (panel_plate draft) (enumerate_from 0 draft.panels)
    ++ map (wall_plate draft) (enumerate_from (length draft.panels) draft.walls)

-- where the way of a molecule of a species ends that moves from a place by a displacement
abbrev pub way : Draft → ℕ → Place → Step3 → Travelled
way draft species from by = way_among (plates_of draft) species from by

-- whether the configuration has a species of this number
abbrev pub is_species : Draft → ℕ → Bool
is_species draft species = nat_lt species (length draft.species)

-- the configuration makes a closed reflecting box for every species
abbrev pub IsClosedBox : Draft → Cuboid → Type 0
IsClosedBox draft box = IsClosed draft.dims (plates_of draft) (is_species draft) box
