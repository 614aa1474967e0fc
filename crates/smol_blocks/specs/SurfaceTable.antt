-- What the reader keeps of the lines of a surface's block. This is no part of what a text means.
use Rattle.std.specs.Prelude.{◌≡◌, ◌<◌, ℕ, List, [], ◌∷◌, ◌++◌, length, Option, None, IfSome, Result, slice_index_or}
use Rattle.smol_text.specs.Reading.{Stated}
use Rattle.smol_types.specs.declared.fault.Kind.{Kind}
use Rattle.smol_types.specs.declared.surface.Action.TheVariants.{Transmit}
use Rattle.smol_types.specs.declared.surface.Face.{Face}
use Rattle.smol_types.specs.declared.surface.Face.TheVariants.{Front, Back}
use Rattle.smol_line.specs.declared.refusal.Refusal.{Refusal}
use Rattle.smol_line.specs.LookingBack.{nearer, Reads as ReadsLine}
use Rattle.smol_blocks.specs.declared.action_table.FaceTable.{FaceTable}
use Rattle.smol_blocks.specs.declared.jump.Leading.{Leading}
use Rattle.smol_blocks.specs.declared.panel_table.PanelTable.{PanelTable}
use Rattle.smol_blocks.specs.declared.surface_table.SurfaceTable.{SurfaceTable}
use Rattle.smol_blocks.specs.Panel.{Named}
use Rattle.smol_blocks.specs.Surface.{SurfaceSaid, Known, panel_names_of, rects_of, sides_of, acting_on, changing_on, led_by, led_to}

-- jumps lead to panels of these, if anywhere
abbrev pub LeadWithin : ℕ → List (Option (ℕ × Face)) → Type 0
LeadWithin count jumps = (panel : ℕ) → IfSome (slice_index_or jumps panel None) (λ to. to.0 < count)

-- there is an entry for each panel, and jumps lead to panels that there are
pub record ArePaired (table : PanelTable) : Type 0 where
  pub rects : length table.rects.items ≡ length table.names
  pub sides : length table.sides.items ≡ length table.names
  pub front_to : length table.front_to.items ≡ length table.names
  pub back_to : length table.back_to.items ≡ length table.names
  pub front_within : LeadWithin (length table.names) table.front_to.items
  pub back_within : LeadWithin (length table.names) table.back_to.items

-- a table has one panel more
pub record AddsPanel (old new : PanelTable) (panel : Named) : Type 0 where
  pub names : new.names ≡ old.names ++ panel.name ∷ []
  pub rects : new.rects.items ≡ old.rects.items ++ panel.rect ∷ []
  pub sides : new.sides.items ≡ old.sides.items ++ panel.facing.greater ∷ []
  pub front_to : new.front_to.items ≡ old.front_to.items ++ None ∷ []
  pub back_to : new.back_to.items ≡ old.back_to.items ++ None ∷ []

-- jumps lead where a line says, and the others where they led before
pub record AddsJump (old new : PanelTable) (leading : Leading) : Type 0 where
  pub names : new.names ≡ old.names
  pub rects : new.rects.items ≡ old.rects.items
  pub sides : new.sides.items ≡ old.sides.items
  pub front_to : (panel : ℕ) → slice_index_or new.front_to.items panel None
      ≡ nearer (led_by leading panel Front) (slice_index_or old.front_to.items panel None)
  pub back_to : (panel : ℕ) → slice_index_or new.back_to.items panel None
      ≡ nearer (led_by leading panel Back) (slice_index_or old.back_to.items panel None)

-- each table is its look-up over what the lines of the block so far say
pub record Holds (table : SurfaceTable) (before : List SurfaceSaid) : Type 0 where
  pub names : table.panels.names ≡ panel_names_of before
  pub rects : table.panels.rects.items ≡ rects_of before
  pub sides : table.panels.sides.items ≡ sides_of before
  pub front : (species : ℕ) → slice_index_or table.actions.front.actions.items species Transmit ≡ acting_on Front species before
  pub back : (species : ℕ) → slice_index_or table.actions.back.actions.items species Transmit ≡ acting_on Back species before
  pub front_new : (species : ℕ) → slice_index_or table.actions.front.changes.items species None ≡ changing_on Front species before
  pub back_new : (species : ℕ) → slice_index_or table.actions.back.changes.items species None ≡ changing_on Back species before
  pub front_to : (panel : ℕ) → slice_index_or table.panels.front_to.items panel None ≡ led_to panel Front before
  pub back_to : (panel : ℕ) → slice_index_or table.panels.back_to.items panel None ≡ led_to panel Back before

-- how the reading of a line ends: it is taken and the table holds what it says too, or its fault is told, or memory ran out
abbrev pub Reads : {T : Type 0} → (List SurfaceSaid → Stated → Result SurfaceSaid Kind) → Stated → SurfaceTable
    → SurfaceTable → Result T Refusal → Type 0
Reads rule line old new result = ReadsLine Holds (λ before. rule before line) old new result

-- what a block may know of the lines before it
abbrev pub known_of : ℕ → List (List ℕ) → ℕ → Known
known_of dims species others = record { dims = dims; species = species; others = others }

-- a face has an entry for what it does to each of so many species, and one for what it makes of it
pub record IsFaceReady (table : FaceTable) (species : ℕ) : Type 0 where
  pub actions : length table.actions.items ≡ species
  pub changes : length table.changes.items ≡ species

-- a table has an entry for each panel, and its faces for each of so many species
pub record IsReady (table : SurfaceTable) (species : ℕ) : Type 0 where
  pub panels : ArePaired table.panels
  pub front : IsFaceReady table.actions.front species
  pub back : IsFaceReady table.actions.back species
