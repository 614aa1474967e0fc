-- What holds of what lines without a fault say of blocks. This is no part of what a text means.
use Rattle.std.specs.Prelude.{◌≡◌, ℕ, ◌+◌, ◌<◌, ◌≤◌, pos, List, [], length, All, Option, None, Some, IfSome, IsSomeAnd, slice_get}
use Rattle.smol_geom.specs.declared.rect.Rect.{Rect}
use Rattle.smol_geom.specs.Axes.{on_axis, EachAxis, IsEven, IsWithin}
use Rattle.smol_geom.specs.Rect.{IsRect}
use Rattle.smol_types.specs.declared.surface.Face.{Face}
use Rattle.smol_types.specs.declared.surface.Face.TheVariants.{Front, Back}
use Rattle.smol_types.specs.Compartments.{IsCompartment, IsPoint}
use Rattle.smol_types.specs.Limits.{farthest, most_bounds, most_compartments, most_panels, most_points, most_surfaces}
use Rattle.smol_types.specs.Panels.{HasEdges, IsCongruent, IsPanel}
use Rattle.smol_types.specs.Surfaces.{IsSurface}
use Rattle.smol_blocks.specs.Blocks.{Block, no_block, in_surface, in_compartment, BlockSaid, block_of, surface_names, surfaces_of, panels_of, compartment_names, compartments_of}
use Rattle.smol_blocks.specs.Compartment.{CompartmentSaid, surfaces_named, points_given}
use Rattle.smol_blocks.specs.Surface.{SurfaceSaid, changing_on, led_to, panel_names_of, rects_of, sides_of}

-- a rectangle that a panel may have
pub record IsPanelRectIn (dims : ℕ) (rect : Rect) : Type 0 where
  pub rect_is : IsRect rect
  pub across : rect.axis < dims
  pub edges : HasEdges rect
  pub low_count : length rect.low ≡ 3
  pub high_count : length rect.high ≡ 3
  pub low_size : IsWithin farthest rect.low
  pub high_size : IsWithin farthest rect.high
  pub low_even : EachAxis (λ axis. IsEven (on_axis rect.low axis))
  pub high_even : EachAxis (λ axis. IsEven (on_axis rect.high axis))
  pub low_unused : EachAxis (λ axis. dims ≤ axis → on_axis rect.low axis ≡ pos 0)
  pub high_unused : EachAxis (λ axis. dims ≤ axis → on_axis rect.high axis ≡ pos 2)

-- a jump from the rectangle leads nowhere, or to one of these that is congruent
abbrev pub LeadsAmong : List Rect → Rect → Option (ℕ × Face) → Type 0
LeadsAmong rects rect None = Unit {0}
LeadsAmong rects rect (Some to) = IsSomeAnd (slice_get rects to.0) (IsCongruent rect)

-- the same of a rectangle that may be missing. Nothing leads from one that is
abbrev pub LeadsFrom : List Rect → Option Rect → Option (ℕ × Face) → Type 0
LeadsFrom rects None None = Unit {0}
LeadsFrom rects None (Some to) = ⊥
LeadsFrom rects (Some rect) to = LeadsAmong rects rect to

-- what faces make of species, by these lines, is one of so many species
abbrev pub ChangeWithin : ℕ → List SurfaceSaid → Type 0
ChangeWithin species_count lines = (one : Face) (species : ℕ) → IfSome (changing_on one species lines) (λ new. new < species_count)

-- the lines of a surface's block, beside so many species, where so many panels of other surfaces stand before
pub record AreSurfaceLines (dims species_count others : ℕ) (lines : List SurfaceSaid) : Type 0 where
  pub count : others + length (rects_of lines) ≤ most_panels
  pub names : length (panel_names_of lines) ≡ length (rects_of lines)
  pub sides : length (sides_of lines) ≡ length (rects_of lines)
  pub rects : All (IsPanelRectIn dims) (rects_of lines)
  pub front_to : (panel : ℕ) → LeadsFrom (rects_of lines) (slice_get (rects_of lines) panel) (led_to panel Front lines)
  pub back_to : (panel : ℕ) → LeadsFrom (rects_of lines) (slice_get (rects_of lines) panel) (led_to panel Back lines)
  pub changes : ChangeWithin species_count lines

-- the lines of a compartment's block, beside so many surfaces
pub record AreCompartmentLines (dims surface_count : ℕ) (lines : List CompartmentSaid) : Type 0 where
  pub bound_count : length (surfaces_named lines) ≤ most_bounds
  pub bounds : All (λ (surface : ℕ). surface < surface_count) (surfaces_named lines)
  pub point_count : length (points_given lines) ≤ most_points
  pub points : All (IsPoint dims) (points_given lines)

-- the block that is open. Each surface and compartment but the one of the open block is closed
abbrev pub IsBlock : ℕ → ℕ → List BlockSaid → Block → Type 0
IsBlock dims species_count said no_block =
    (length (surface_names said) ≡ length (surfaces_of said)) × (length (compartment_names said) ≡ length (compartments_of said))
IsBlock dims species_count said (in_surface opened lines) =
    (length (surface_names said) ≡ length (surfaces_of said) + 1) × (length (compartment_names said) ≡ length (compartments_of said))
    × AreSurfaceLines dims species_count (length (panels_of said)) lines
IsBlock dims species_count said (in_compartment opened lines) =
    (length (surface_names said) ≡ length (surfaces_of said)) × (length (compartment_names said) ≡ length (compartments_of said) + 1)
    × AreCompartmentLines dims (length (surfaces_of said)) lines

-- what lines say of blocks where so many axes are in use and there are so many species
pub record AreBlocksOf (dims species_count : ℕ) (said : List BlockSaid) : Type 0 where
  pub surface_count : length (surface_names said) ≤ most_surfaces
  pub surfaces : All (IsSurface species_count) (surfaces_of said)
  pub compartment_count : length (compartment_names said) ≤ most_compartments
  pub panel_count : length (panels_of said) ≤ most_panels
  pub panels : All (IsPanel dims (length (surfaces_of said)) (panels_of said)) (panels_of said)
  pub compartments : All (IsCompartment dims (length (surfaces_of said))) (compartments_of said)
  pub block : IsBlock dims species_count said (block_of said)

-- the same, by the number of axes where it is given. Where it isn't, nothing is said of blocks
abbrev pub AreBlocks : Option ℕ → ℕ → List BlockSaid → Type 0
AreBlocks None species_count said = said ≡ []
AreBlocks (Some dims) species_count said = AreBlocksOf dims species_count said
