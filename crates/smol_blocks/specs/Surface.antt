-- What the lines of a surface's block say, and the surface that comes of them. The lines before a line stand nearest first.
use Rattle.std.specs.Prelude.{ℕ, ◌+◌, ◌==◌, ◌&&◌, Bool, true, false, List, [], ◌∷◌, ◌++◌, Option, None, Some, Result, if◌then◌else◌}
use Rattle.smol_geom.specs.declared.rect.Rect.{Rect}
use Rattle.smol_text.specs.Reading.{Stated}
use Rattle.smol_types.specs.declared.fault.Kind.{Kind}
use Rattle.smol_types.specs.declared.surface.Action.{Action}
use Rattle.smol_types.specs.declared.surface.Action.TheVariants as action
use Rattle.smol_types.specs.declared.surface.Face.{Face}
use Rattle.smol_types.specs.declared.surface.Face.TheVariants as face
use Rattle.smol_types.specs.declared.surface.Surface.{Surface as TheSurface}
use Rattle.smol_line.specs.LookingBack.{say, nearer}
use Rattle.smol_line.specs.SpeciesWord.{is_chosen}
use Rattle.smol_blocks.specs.declared.action.Acting.{Acting}
use Rattle.smol_blocks.specs.declared.faces.Faces.{Faces}
use Rattle.smol_blocks.specs.declared.faces.Faces.TheVariants.{Front, Back, Both}
use Rattle.smol_blocks.specs.declared.jump.Leading.{Leading}
use Rattle.smol_blocks.specs.declared.surface_statement.SurfaceStatement.{SurfaceStatement}
use Rattle.smol_blocks.specs.declared.surface_statement.SurfaceStatement.TheVariants as statement
use Rattle.smol_blocks.specs.Action.{action_in}
use Rattle.smol_blocks.specs.Jump.{jump_in}
use Rattle.smol_blocks.specs.Panel.{Named, panel_in}

-- what a line of the block says
pub data SurfaceSaid : Type 0 where
  -- what faces do to species, and what they make of them
  acts : Acting → SurfaceSaid
  -- that there is this panel
  shows : Named → SurfaceSaid
  -- where a jump leads
  leads : Leading → SurfaceSaid

-- what a block may know of the lines before it: how many axes are in use, the names of species, and how many panels other surfaces have
pub record Known : Type 0 where
  pub dims : ℕ
  pub species : List (List ℕ)
  pub others : ℕ

-- the names of the panels that the lines before give, in order
abbrev pub panel_names_of : List SurfaceSaid → List (List ℕ)
panel_names_of [] = []
panel_names_of (acts acting ∷ before) = panel_names_of before
panel_names_of (shows panel ∷ before) = panel_names_of before ++ panel.name ∷ []
panel_names_of (leads leading ∷ before) = panel_names_of before

-- and their rectangles
abbrev pub rects_of : List SurfaceSaid → List Rect
rects_of [] = []
rects_of (acts acting ∷ before) = rects_of before
rects_of (shows panel ∷ before) = rects_of before ++ panel.rect ∷ []
rects_of (leads leading ∷ before) = rects_of before

-- and whether their fronts are the sides of greater coordinates
abbrev pub sides_of : List SurfaceSaid → List Bool
sides_of [] = []
sides_of (acts acting ∷ before) = sides_of before
sides_of (shows panel ∷ before) = sides_of before ++ panel.facing.greater ∷ []
sides_of (leads leading ∷ before) = sides_of before

-- whether a word for faces means this face
abbrev pub means_face : Faces → Face → Bool
means_face Front face.Front = true
means_face Front face.Back = false
means_face Back face.Front = false
means_face Back face.Back = true
means_face Both one = true

-- what a face does to a species, by the nearest line before that means both. It lets through where no line does
abbrev pub acting_on : Face → ℕ → List SurfaceSaid → Action
acting_on one species [] = action.Transmit
acting_on one species (acts acting ∷ before) =
    if means_face acting.faces one && is_chosen species acting.who then acting.action else acting_on one species before
acting_on one species (shows panel ∷ before) = acting_on one species before
acting_on one species (leads leading ∷ before) = acting_on one species before

-- what a face makes of a species on which it acts, by the same line, if that says it
abbrev pub changing_on : Face → ℕ → List SurfaceSaid → Option ℕ
changing_on one species [] = None
changing_on one species (acts acting ∷ before) =
    if means_face acting.faces one && is_chosen species acting.who then acting.new else changing_on one species before
changing_on one species (shows panel ∷ before) = changing_on one species before
changing_on one species (leads leading ∷ before) = changing_on one species before

abbrev pub same_face : Face → Face → Bool
same_face face.Front face.Front = true
same_face face.Front face.Back = false
same_face face.Back face.Front = false
same_face face.Back face.Back = true

-- where a line leads from a face of the panel of a number, if it does
abbrev pub led_by : Leading → ℕ → Face → Option (ℕ × Face)
led_by leading panel one =
    if (leading.from == panel) && same_face leading.from_face one
    then Some (leading.to, leading.to_face)
    else (if leading.both && (leading.to == panel) && same_face leading.to_face one then Some (leading.from, leading.from_face) else None)

-- where a jump from a face of the panel of a number leads, by the nearest line before that says it: the number of a
-- panel of the surface, and its face
abbrev pub led_to : ℕ → Face → List SurfaceSaid → Option (ℕ × Face)
led_to panel one [] = None
led_to panel one (acts acting ∷ before) = led_to panel one before
led_to panel one (shows new ∷ before) = led_to panel one before
led_to panel one (leads leading ∷ before) = nearer (led_by leading panel one) (led_to panel one before)

-- what a line of the block says that makes this statement, or its fault
unfoldable pub surface_line_in : SurfaceStatement → Known → List SurfaceSaid → Stated → Result SurfaceSaid Kind
surface_line_in statement.Action known before line = say acts (action_in known.species line)
surface_line_in statement.Panel known before line = say shows (panel_in known.dims known.others (panel_names_of before) line)
surface_line_in statement.Jump known before line = say leads (jump_in (panel_names_of before) (rects_of before) line)

-- what a face does to each of so many species from a number on
abbrev pub actions_from : Face → ℕ → List (List ℕ) → List SurfaceSaid → List Action
actions_from one number [] before = []
actions_from one number (name ∷ names) before = acting_on one number before ∷ actions_from one (number + 1) names before

-- what it makes of each of them
abbrev pub changes_from : Face → ℕ → List (List ℕ) → List SurfaceSaid → List (Option ℕ)
changes_from one number [] before = []
changes_from one number (name ∷ names) before = changing_on one number before ∷ changes_from one (number + 1) names before

-- the surface of a block
unfoldable pub surface_of : Known → List SurfaceSaid → TheSurface
surface_of known before = record {
  front = actions_from face.Front 0 known.species before;
  back = actions_from face.Back 0 known.species before;
  front_new = changes_from face.Front 0 known.species before;
  back_new = changes_from face.Back 0 known.species before;
}
