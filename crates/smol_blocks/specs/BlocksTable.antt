-- What the reader keeps of blocks. This is no part of what a text means.
use Rattle.std.specs.Prelude.{◌≡◌, ◌≤◌, ◌++◌, ◌∷◌, [], ℕ, List, length, Result, Ok, Err}
use Rattle.smol_types.specs.declared.fault.ConfigFault.{ConfigFault}
use Rattle.smol_types.specs.Limits.{most_compartments, most_panels, most_surfaces}
use Rattle.smol_line.specs.Fault.{Fault, TellsFault}
use Rattle.smol_blocks.specs.declared.blocks.Blocks.{Blocks}
use Rattle.smol_blocks.specs.declared.drafts.CompartmentDraft.{CompartmentDraft}
use Rattle.smol_blocks.specs.declared.drafts.SurfaceDraft.{SurfaceDraft}
use Rattle.smol_blocks.specs.Blocks.{no_block, BlockSaid, block_of, surface_names, surfaces_of, panels_of, compartment_names, compartments_of}

-- each table is its look-up over what the lines so far say of blocks, and no block is open
pub record Holds (table : Blocks) (said : List BlockSaid) : Type 0 where
  pub surface_names : table.surface_names ≡ surface_names said
  pub surfaces : table.surfaces ≡ surfaces_of said
  pub panels : table.panels ≡ panels_of said
  pub compartment_names : table.compartment_names ≡ compartment_names said
  pub compartments : table.compartments ≡ compartments_of said
  pub closed : block_of said ≡ no_block

-- there is a surface for each name, and no more is in the table than there may be
pub record IsKept (table : Blocks) : Type 0 where
  pub surface_count : length table.surface_names ≤ most_surfaces
  pub surfaces : length table.surfaces ≡ length table.surface_names
  pub panel_count : length table.panels ≤ most_panels
  pub compartment_count : length table.compartment_names ≤ most_compartments

-- a table has one surface more, with its panels
pub record AddsSurface (old new : Blocks) (draft : SurfaceDraft) : Type 0 where
  pub surface_names : new.surface_names ≡ old.surface_names ++ draft.name ∷ []
  pub surfaces : new.surfaces ≡ old.surfaces ++ draft.surface ∷ []
  pub panels : new.panels ≡ old.panels ++ draft.panels
  pub compartment_names : new.compartment_names ≡ old.compartment_names
  pub compartments : new.compartments ≡ old.compartments

-- a table has one compartment more
pub record AddsCompartment (old new : Blocks) (draft : CompartmentDraft) : Type 0 where
  pub surface_names : new.surface_names ≡ old.surface_names
  pub surfaces : new.surfaces ≡ old.surfaces
  pub panels : new.panels ≡ old.panels
  pub compartment_names : new.compartment_names ≡ old.compartment_names ++ draft.name ∷ []
  pub compartments : new.compartments ≡ old.compartments ++ draft.compartment ∷ []

-- a list has more behind what it had, if anything
abbrev pub GoesOn : {T : Type 0} → List T → List T → Type 0
GoesOn {T = T} old new = (more : List T) × (new ≡ old ++ more)

-- no name is added, and what was in the table is there in front
pub record KeepsNames (old new : Blocks) : Type 0 where
  pub surface_names : new.surface_names ≡ old.surface_names
  pub surfaces : GoesOn old.surfaces new.surfaces
  pub panels : GoesOn old.panels new.panels
  pub compartment_names : new.compartment_names ≡ old.compartment_names
  pub compartments : GoesOn old.compartments new.compartments

-- how the reading of a block ends: what it gives is added and the index behind it answered, or its fault is told
abbrev pub ReadsBlock : {T : Type 0} → (Blocks → Blocks → T → Type 0) → Result (T × ℕ) Fault → Blocks → Blocks → Result ℕ ConfigFault
    → Type 0
ReadsBlock {T = T} Adds outcome old new (Ok next) = (draft : T) × (outcome ≡ Ok (draft, next)) × Adds old new draft
ReadsBlock Adds outcome old new (Err fault) = TellsFault fault outcome

abbrev pub ReadsSurface : Result (SurfaceDraft × ℕ) Fault → Blocks → Blocks → Result ℕ ConfigFault → Type 0
ReadsSurface outcome old new result = ReadsBlock AddsSurface outcome old new result

abbrev pub ReadsCompartment : Result (CompartmentDraft × ℕ) Fault → Blocks → Blocks → Result ℕ ConfigFault → Type 0
ReadsCompartment outcome old new result = ReadsBlock AddsCompartment outcome old new result
