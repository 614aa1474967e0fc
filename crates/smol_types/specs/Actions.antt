-- What faces of panels and walls do to a species.
use Rattle.std.specs.Prelude.{ℕ, ◌-◌, Bool, true, false, List, length, Option, None, Some, if◌then◌else◌, slice_get, slice_index_or, unwrap_or}
use Rattle.smol_types.specs.declared.draft.Draft.{Draft}
use Rattle.smol_types.specs.declared.surface.Action.{Action}
use Rattle.smol_types.specs.declared.surface.Action.TheVariants.{Reflect, Absorb, Jump, Transmit}
use Rattle.smol_types.specs.declared.surface.Face.{Face}
use Rattle.smol_types.specs.declared.surface.Face.TheVariants.{Front, Back}
use Rattle.smol_types.specs.declared.surface.Panel.{Panel}
use Rattle.smol_types.specs.declared.surface.Surface.{Surface}
use Rattle.smol_types.specs.declared.wall.Letter.{Letter}
use Rattle.smol_types.specs.declared.wall.Letter.TheVariants as letter
use Rattle.smol_types.specs.declared.wall.Wall.{Wall}

-- what a surface says of a species on a face. It lets a species through that it doesn't know
abbrev pub written_action : Surface → Face → ℕ → Action
written_action surface Front species = slice_index_or surface.front species Transmit
written_action surface Back species = slice_index_or surface.back species Transmit

-- the panel, by its number, and the face of it to which a jump from a face leads
abbrev pub destination_of : Panel → Face → Option (ℕ × Face)
destination_of panel Front = panel.front_to
destination_of panel Back = panel.back_to

-- a jump that leads nowhere lets through
abbrev pub carried_out : Action → Option (ℕ × Face) → Action
carried_out Reflect to = Reflect
carried_out Absorb to = Absorb
carried_out Jump None = Transmit
carried_out Jump (Some to) = Jump
carried_out Transmit to = Transmit

-- what a surface says, where there is the surface
abbrev pub action_written : Option Surface → Face → ℕ → Action
action_written None face species = Transmit
action_written (Some surface) face species = written_action surface face species

-- what a face of a panel does to a species
abbrev pub panel_action : List Surface → Panel → Face → ℕ → Action
panel_action surfaces panel face species =
    carried_out (action_written (slice_get surfaces panel.surface) face species) (destination_of panel face)

-- what a face of a wall does to every species: the face turned inwards acts by the wall's letter, the other one lets through
abbrev pub wall_action : Letter → Face → Action
wall_action letter.R Front = Reflect
wall_action letter.P Front = Jump
wall_action letter.A Front = Absorb
wall_action letter.T Front = Transmit
wall_action letter.R Back = Transmit
wall_action letter.P Back = Transmit
wall_action letter.A Back = Transmit
wall_action letter.T Back = Transmit

-- what a face of a wall does, where there is the wall
abbrev pub action_of_wall : Face → Option Wall → Action
action_of_wall face None = Transmit
action_of_wall face (Some wall) = wall_action wall.letter face

-- what a face of a panel does, where there is the panel, and else what the wall of this number does
abbrev pub action_of_panel : Draft → ℕ → Face → ℕ → Option Panel → Action
action_of_panel draft number face species (Some panel) = panel_action draft.surfaces panel face species
action_of_panel draft number face species None = action_of_wall face (slice_get draft.walls (number - length draft.panels))

-- what a face does to a species. Walls are numbered after all panels
unfoldable pub action_of : Draft → ℕ → Face → ℕ → Action
action_of draft number face species = action_of_panel draft number face species (slice_get draft.panels number)

-- what a surface says that a face makes of a species, if it says it
abbrev pub written_change : Surface → Face → ℕ → Option ℕ
written_change surface Front species = slice_index_or surface.front_new species None
written_change surface Back species = slice_index_or surface.back_new species None

-- the same, where there is the surface
abbrev pub change_written : Option Surface → Face → ℕ → Option ℕ
change_written None face species = None
change_written (Some surface) face species = written_change surface face species

-- whether the action that was written is the one that is done, as it is but for a jump that leads nowhere
abbrev pub is_carried_out : Action → Option (ℕ × Face) → Bool
is_carried_out Reflect to = true
is_carried_out Absorb to = true
is_carried_out Jump None = false
is_carried_out Jump (Some to) = true
is_carried_out Transmit to = true

-- what a face of a panel makes of a species on which it acts
abbrev pub panel_change : List Surface → Panel → Face → ℕ → ℕ
panel_change surfaces panel face species =
    if is_carried_out (action_written (slice_get surfaces panel.surface) face species) (destination_of panel face)
    then unwrap_or (change_written (slice_get surfaces panel.surface) face species) species
    else species

-- the same, where there is the panel. A wall changes no species
abbrev pub change_of_panel : Draft → Face → ℕ → Option Panel → ℕ
change_of_panel draft face species (Some panel) = panel_change draft.surfaces panel face species
change_of_panel draft face species None = species

-- the species that a face makes of a species on which it acts
unfoldable pub change_of : Draft → ℕ → Face → ℕ → ℕ
change_of draft number face species = change_of_panel draft face species (slice_get draft.panels number)
