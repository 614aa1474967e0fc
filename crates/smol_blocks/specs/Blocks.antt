-- What lines say of blocks: each opens one, stands in one or closes it. The lines before a line stand nearest first.
use Rattle.std.specs.Prelude.{ℕ, ◌+◌, nat_lt, Bool, true, false, List, [], ◌∷◌, ◌++◌, length, Option, None, Some, Result, Ok, Err}
use Rattle.smol_geom.specs.declared.rect.Rect.{Rect}
use Rattle.smol_text.specs.Reading.{Stated}
use Rattle.smol_types.specs.declared.compartment.Compartment.{Compartment}
use Rattle.smol_types.specs.declared.fault.Kind.{Kind}
use Rattle.smol_types.specs.declared.fault.Kind.TheVariants.{BadOrder, TooMany}
use Rattle.smol_types.specs.declared.surface.Face.{Face}
use Rattle.smol_types.specs.declared.surface.Face.TheVariants.{Front, Back}
use Rattle.smol_types.specs.declared.surface.Panel.{Panel as ThePanel}
use Rattle.smol_types.specs.declared.surface.Surface.{Surface as TheSurface}
use Rattle.smol_types.specs.Limits.{most_surfaces, most_compartments}
use Rattle.smol_line.specs.declared.axes.Axes.{Axes}
use Rattle.smol_line.specs.Axes.{needs_dim}
use Rattle.smol_line.specs.Checks.{unless, word_count, passing, with_value}
use Rattle.smol_line.specs.LookingBack.{say}
use Rattle.smol_line.specs.Names.{new_name_in}
use Rattle.smol_line.specs.Words.{word_at}
use Rattle.smol_blocks.specs.declared.block_statement.BlockStatement.{BlockStatement}
use Rattle.smol_blocks.specs.declared.block_statement.BlockStatement.TheVariants.{StartSurface, InSurface, EndSurface, StartCompartment, Surface, Point, EndCompartment}
use Rattle.smol_blocks.specs.declared.surface_statement.SurfaceStatement.{SurfaceStatement}
use Rattle.smol_blocks.specs.Compartment.{CompartmentSaid, bounded, holds, bound_in, point_in, end_compartment_in}
use Rattle.smol_blocks.specs.Surface.{SurfaceSaid, Known, led_to, rects_of, sides_of, surface_line_in, surface_of}

pub data BlockSaid : Type 0 where
  -- the line of this number opens the block of a surface of this name
  opens_surface : ℕ → List ℕ → BlockSaid
  -- this of the surface whose block is open
  of_surface : SurfaceSaid → BlockSaid
  -- the block is closed, and this surface with these panels comes of it
  closes_surface : TheSurface → List ThePanel → BlockSaid
  -- the line of this number opens the block of a compartment of this name
  opens_compartment : ℕ → List ℕ → BlockSaid
  -- this of the compartment whose block is open
  of_compartment : CompartmentSaid → BlockSaid
  -- the block is closed, and this compartment comes of it
  closes_compartment : Compartment → BlockSaid

-- the block that is open: the number of the line that opened it, and what the lines in it say so far
pub data Block : Type 0 where
  no_block : Block
  in_surface : ℕ → List SurfaceSaid → Block
  in_compartment : ℕ → List CompartmentSaid → Block

-- the block with what a line more of a surface says
abbrev pub with_surface : SurfaceSaid → Block → Block
with_surface said no_block = no_block
with_surface said (in_surface opened lines) = in_surface opened (said ∷ lines)
with_surface said (in_compartment opened lines) = in_compartment opened lines

-- the block with what a line more of a compartment says
abbrev pub with_compartment : CompartmentSaid → Block → Block
with_compartment said no_block = no_block
with_compartment said (in_surface opened lines) = in_surface opened lines
with_compartment said (in_compartment opened lines) = in_compartment opened (said ∷ lines)

-- the block that is open behind these lines
abbrev pub block_of : List BlockSaid → Block
block_of [] = no_block
block_of (opens_surface opened name ∷ before) = in_surface opened []
block_of (of_surface said ∷ before) = with_surface said (block_of before)
block_of (closes_surface surface panels ∷ before) = no_block
block_of (opens_compartment opened name ∷ before) = in_compartment opened []
block_of (of_compartment said ∷ before) = with_compartment said (block_of before)
block_of (closes_compartment compartment ∷ before) = no_block

-- no block is open
abbrev pub is_outside : Block → Bool
is_outside no_block = true
is_outside (in_surface opened lines) = false
is_outside (in_compartment opened lines) = false

-- the number of the line that opened the block that is open
abbrev pub opening_line : Block → Option ℕ
opening_line no_block = None
opening_line (in_surface opened lines) = Some opened
opening_line (in_compartment opened lines) = Some opened

-- the names of the surfaces, in order
abbrev pub surface_names : List BlockSaid → List (List ℕ)
surface_names [] = []
surface_names (opens_surface opened name ∷ before) = surface_names before ++ name ∷ []
surface_names (of_surface said ∷ before) = surface_names before
surface_names (closes_surface surface panels ∷ before) = surface_names before
surface_names (opens_compartment opened name ∷ before) = surface_names before
surface_names (of_compartment said ∷ before) = surface_names before
surface_names (closes_compartment compartment ∷ before) = surface_names before

-- the surfaces whose blocks are closed, in order
abbrev pub surfaces_of : List BlockSaid → List TheSurface
surfaces_of [] = []
surfaces_of (opens_surface opened name ∷ before) = surfaces_of before
surfaces_of (of_surface said ∷ before) = surfaces_of before
surfaces_of (closes_surface surface panels ∷ before) = surfaces_of before ++ surface ∷ []
surfaces_of (opens_compartment opened name ∷ before) = surfaces_of before
surfaces_of (of_compartment said ∷ before) = surfaces_of before
surfaces_of (closes_compartment compartment ∷ before) = surfaces_of before

-- their panels, in order
abbrev pub panels_of : List BlockSaid → List ThePanel
panels_of [] = []
panels_of (opens_surface opened name ∷ before) = panels_of before
panels_of (of_surface said ∷ before) = panels_of before
panels_of (closes_surface surface panels ∷ before) = panels_of before ++ panels
panels_of (opens_compartment opened name ∷ before) = panels_of before
panels_of (of_compartment said ∷ before) = panels_of before
panels_of (closes_compartment compartment ∷ before) = panels_of before

-- the names of the compartments, in order
abbrev pub compartment_names : List BlockSaid → List (List ℕ)
compartment_names [] = []
compartment_names (opens_surface opened name ∷ before) = compartment_names before
compartment_names (of_surface said ∷ before) = compartment_names before
compartment_names (closes_surface surface panels ∷ before) = compartment_names before
compartment_names (opens_compartment opened name ∷ before) = compartment_names before ++ name ∷ []
compartment_names (of_compartment said ∷ before) = compartment_names before
compartment_names (closes_compartment compartment ∷ before) = compartment_names before

-- the compartments whose blocks are closed, in order
abbrev pub compartments_of : List BlockSaid → List Compartment
compartments_of [] = []
compartments_of (opens_surface opened name ∷ before) = compartments_of before
compartments_of (of_surface said ∷ before) = compartments_of before
compartments_of (closes_surface surface panels ∷ before) = compartments_of before
compartments_of (opens_compartment opened name ∷ before) = compartments_of before
compartments_of (of_compartment said ∷ before) = compartments_of before
compartments_of (closes_compartment compartment ∷ before) = compartments_of before ++ compartment ∷ []

-- a panel of the surface by its number over the whole file, where so many panels of other surfaces stand before
abbrev pub numbered_face : ℕ → Option (ℕ × Face) → Option (ℕ × Face)
numbered_face others None = None
numbered_face others (Some to) = Some (others + to.0, to.1)

-- the panels of a surface from a number on, by their rectangles and sides
abbrev pub panels_from : ℕ → ℕ → List SurfaceSaid → ℕ → List Rect → List Bool → List ThePanel
panels_from surface others lines number [] sides = []
panels_from surface others lines number (rect ∷ rects) [] = []
panels_from surface others lines number (rect ∷ rects) (side ∷ sides) =
    record {
      rect = rect;
      greater = side;
      surface = surface;
      front_to = numbered_face others (led_to number Front lines);
      back_to = numbered_face others (led_to number Back lines);
    }
    ∷ panels_from surface others lines (number + 1) rects sides

-- the panels of the surface of this number, where so many panels of other surfaces stand before
unfoldable pub panels_in : ℕ → ℕ → List SurfaceSaid → List ThePanel
panels_in surface others lines = panels_from surface others lines 0 (rects_of lines) (sides_of lines)

-- what a block may know of the lines before it
abbrev pub known_to : ℕ → List (List ℕ) → List BlockSaid → Known
known_to dims species before = record { dims = dims; species = species; others = length (panels_of before) }

-- `start_surface NAME`: the block of a surface of a new name
unfoldable pub start_surface_in : Axes → List BlockSaid → Stated → Result BlockSaid Kind
start_surface_in axes before line =
    passing (unless (is_outside (block_of before)) BadOrder ∷ [])
    (with_value (needs_dim axes) (λ dims.
    passing (word_count 2 line ∷ [])
    (with_value (new_name_in (surface_names before) (word_at line 1)) (λ name.
    passing (unless (nat_lt (length (surface_names before)) most_surfaces) TooMany ∷ []) (Ok (opens_surface line.number name))))))

-- `start_compartment NAME`: the block of a compartment of a new name
unfoldable pub start_compartment_in : Axes → List BlockSaid → Stated → Result BlockSaid Kind
start_compartment_in axes before line =
    passing (unless (is_outside (block_of before)) BadOrder ∷ [])
    (with_value (needs_dim axes) (λ dims.
    passing (word_count 2 line ∷ [])
    (with_value (new_name_in (compartment_names before) (word_at line 1)) (λ name.
    passing (unless (nat_lt (length (compartment_names before)) most_compartments) TooMany ∷ [])
    (Ok (opens_compartment line.number name))))))

-- a line that stands in the block of a surface, by the block that is open
abbrev pub in_surface_in : SurfaceStatement → Axes → List (List ℕ) → List BlockSaid → Stated → Block → Result BlockSaid Kind
in_surface_in statement axes species before line no_block = Err BadOrder
in_surface_in statement axes species before line (in_surface opened lines) =
    with_value (needs_dim axes) (λ dims. say of_surface (surface_line_in statement (known_to dims species before) lines line))
in_surface_in statement axes species before line (in_compartment opened lines) = Err BadOrder

-- `end_surface`: the surface of the block, and its panels
abbrev pub end_surface_in : Axes → List (List ℕ) → List BlockSaid → Stated → Block → Result BlockSaid Kind
end_surface_in axes species before line no_block = Err BadOrder
end_surface_in axes species before line (in_surface opened lines) =
    with_value (needs_dim axes) (λ dims.
    passing (word_count 1 line ∷ [])
    (Ok (closes_surface (surface_of (known_to dims species before) lines)
    (panels_in (length (surfaces_of before)) (length (panels_of before)) lines))))
end_surface_in axes species before line (in_compartment opened lines) = Err BadOrder

-- `surface NAME` in the block of a compartment, by the block that is open
abbrev pub bound_said : List BlockSaid → Stated → Block → Result BlockSaid Kind
bound_said before line no_block = Err BadOrder
bound_said before line (in_surface opened lines) = Err BadOrder
bound_said before line (in_compartment opened lines) =
    with_value (bound_in (surface_names before) lines line) (λ surface. Ok (of_compartment (bounded surface)))

-- `point X ...` in the block of a compartment
abbrev pub point_said : Axes → Stated → Block → Result BlockSaid Kind
point_said axes line no_block = Err BadOrder
point_said axes line (in_surface opened lines) = Err BadOrder
point_said axes line (in_compartment opened lines) = with_value (point_in axes lines line) (λ point. Ok (of_compartment (holds point)))

-- `end_compartment`
abbrev pub end_compartment_said : Stated → Block → Result BlockSaid Kind
end_compartment_said line no_block = Err BadOrder
end_compartment_said line (in_surface opened lines) = Err BadOrder
end_compartment_said line (in_compartment opened lines) =
    with_value (end_compartment_in lines line) (λ compartment. Ok (closes_compartment compartment))

-- what a line says that makes this statement, by the axes and the names of species that the lines before it give, or its fault
unfoldable pub block_line_in : BlockStatement → Axes → List (List ℕ) → List BlockSaid → Stated → Result BlockSaid Kind
block_line_in StartSurface axes species before line = start_surface_in axes before line
block_line_in (InSurface statement) axes species before line = in_surface_in statement axes species before line (block_of before)
block_line_in EndSurface axes species before line = end_surface_in axes species before line (block_of before)
block_line_in StartCompartment axes species before line = start_compartment_in axes before line
block_line_in Surface axes species before line = bound_said before line (block_of before)
block_line_in Point axes species before line = point_said axes line (block_of before)
block_line_in EndCompartment axes species before line = end_compartment_said line (block_of before)
