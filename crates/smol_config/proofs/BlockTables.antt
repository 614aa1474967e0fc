-- What the tables hold while a block is open, and when it is closed.
use Rattle.std.proofs.Common.{◌≡◌, ◌++◌, ◌∷◌, [], ℕ, true, List, refl, ap, ◌∙◌}
use Rattle.smol_types.specs.declared.compartment.Compartment.{Compartment}
use Rattle.smol_types.specs.declared.surface.Panel.{Panel}
use Rattle.smol_types.specs.declared.surface.Surface.{Surface}
use Rattle.smol_blocks.specs.declared.blocks.Blocks.{Blocks}
use Rattle.smol_blocks.specs.declared.drafts.CompartmentDraft.{CompartmentDraft}
use Rattle.smol_blocks.specs.declared.drafts.SurfaceDraft.{SurfaceDraft}
use Rattle.smol_blocks.specs.Blocks.{Block as TheBlock, BlockSaid, in_surface, in_compartment, opens_surface, closes_surface, opens_compartment, closes_compartment, with_surface, with_compartment, block_of, compartment_names, compartments_of, panels_of, surface_names, surfaces_of}
use Rattle.smol_blocks.specs.BlocksTable.{AddsCompartment, AddsSurface, IsKept}
use Rattle.smol_blocks.specs.BlockReads.{said_with, stays_open}
use Rattle.smol_blocks.specs.BlockText.{InBlock, passes, says, ends}
use Rattle.smol_blocks.specs.Compartment.{CompartmentSaid}
use Rattle.smol_blocks.specs.Surface.{Known, SurfaceSaid}
use Rattle.smol_reactions.specs.Table.{Holds as HoldsReactions}
use Rattle.smol_config.specs.declared.tables.Tables.{Tables}
use Rattle.smol_config.specs.Said.{Said, of_blocks}
use Rattle.smol_config.specs.Blocks.{blocks_said}
use Rattle.smol_config.specs.Reactions.{reactions_said}
use Rattle.smol_config.specs.Looked.{looked_up}
use Rattle.smol_config.specs.Tables.{Holds, seen}
use Rattle.smol_config.proofs.BlockLines.{compartment_told, surface_told}

-- what lines say of blocks, beside the block that is open
pub record Lists : Type 0 where
  pub surface_names : List (List ℕ)
  pub surfaces : List Surface
  pub panels : List Panel
  pub compartment_names : List (List ℕ)
  pub compartments : List Compartment

abbrev pub lists_of : List BlockSaid → Lists
lists_of said = record {
  surface_names = surface_names said;
  surfaces = surfaces_of said;
  panels = panels_of said;
  compartment_names = compartment_names said;
  compartments = compartments_of said;
}

-- a table of blocks, where these are the names
abbrev pub listed : Blocks → List (List ℕ) → List (List ℕ) → Lists
listed blocks surfaces compartments = record {
  surface_names = surfaces;
  surfaces = blocks.surfaces;
  panels = blocks.panels;
  compartment_names = compartments;
  compartments = blocks.compartments;
}

-- the tables hold what lines say of all else, and these are the names, and the block that is open, by what lines say of blocks
pub record Within (tables : Tables) (surfaces compartments : List (List ℕ)) (open_block : TheBlock) (before : List Said) : Type 0 where
  pub plain : seen tables ≡ looked_up before
  pub reactions : HoldsReactions tables.reactions (reactions_said before)
  pub lists : listed tables.blocks surfaces compartments ≡ lists_of (blocks_said before)
  pub block : block_of (blocks_said before) ≡ open_block

-- the line that opens the block of a surface, and of a compartment
pub surface_opened : (tables : Tables) (opened : ℕ) (name : List ℕ) (before : List Said) → Holds tables before → Within tables (tables.blocks.surface_names ++ name ∷ []) tables.blocks.compartment_names (in_surface opened []) (of_blocks (opens_surface opened name) ∷ before)
surface_opened tables opened name before h = record {
  plain = h.plain;
  reactions = h.reactions;
  lists = λ i. record {
    surface_names = h.blocks.surface_names i ++ name ∷ [];
    surfaces = h.blocks.surfaces i;
    panels = h.blocks.panels i;
    compartment_names = h.blocks.compartment_names i;
    compartments = h.blocks.compartments i;
  };
  block = refl;
}

pub compartment_opened : (tables : Tables) (opened : ℕ) (name : List ℕ) (before : List Said) → Holds tables before → Within tables tables.blocks.surface_names (tables.blocks.compartment_names ++ name ∷ []) (in_compartment opened []) (of_blocks (opens_compartment opened name) ∷ before)
compartment_opened tables opened name before h = record {
  plain = h.plain;
  reactions = h.reactions;
  lists = λ i. record {
    surface_names = h.blocks.surface_names i;
    surfaces = h.blocks.surfaces i;
    panels = h.blocks.panels i;
    compartment_names = h.blocks.compartment_names i ++ name ∷ [];
    compartments = h.blocks.compartments i;
  };
  block = refl;
}

-- a line in the block of a surface that leaves it open, and one in that of a compartment
pub surface_within : (tables : Tables) (surfaces compartments : List (List ℕ)) (opened : ℕ) (known : Known) (number : ℕ) (before : List Said) (said : List SurfaceSaid) (one : InBlock SurfaceSaid)
    → stays_open one ≡ true → Within tables surfaces compartments (in_surface opened said) before → Within tables surfaces compartments (in_surface opened (said_with one said)) (surface_told known number said one ∷ before)
surface_within tables surfaces compartments opened known number before said passes stays h = record { plain = h.plain; reactions = h.reactions; lists = h.lists; block = h.block }
surface_within tables surfaces compartments opened known number before said (says more) stays h = record { plain = h.plain; reactions = h.reactions; lists = h.lists; block = ap (with_surface more) h.block }
surface_within tables surfaces compartments opened known number before said ends stays h = absurd cc

pub compartment_within : (tables : Tables) (surfaces compartments : List (List ℕ)) (opened : ℕ) (before : List Said) (said : List CompartmentSaid) (one : InBlock CompartmentSaid)
    → stays_open one ≡ true → Within tables surfaces compartments (in_compartment opened said) before → Within tables surfaces compartments (in_compartment opened (said_with one said)) (compartment_told said one ∷ before)
compartment_within tables surfaces compartments opened before said passes stays h = record { plain = h.plain; reactions = h.reactions; lists = h.lists; block = h.block }
compartment_within tables surfaces compartments opened before said (says more) stays h = record { plain = h.plain; reactions = h.reactions; lists = h.lists; block = ap (with_compartment more) h.block }
compartment_within tables surfaces compartments opened before said ends stays h = absurd cc

-- the line that closes the block of a surface, where its surface was added
pub surface_closed : (tables : Tables) (start : List Said) → Holds tables start → (blocks : Blocks) (draft : SurfaceDraft) (block : TheBlock) (before : List Said)
    → Within tables (tables.blocks.surface_names ++ draft.name ∷ []) tables.blocks.compartment_names block before → AddsSurface tables.blocks blocks draft → IsKept blocks
    → Holds (record tables { blocks = blocks }) (of_blocks (closes_surface draft.surface draft.panels) ∷ before)
surface_closed tables start h blocks draft block before w adds kept = record {
  plain = w.plain;
  groups = record {
    reactions = w.reactions;
    kept = h.kept;
    blocks = record {
      surface_names = adds.surface_names ∙ ap (λ (old : Lists). old.surface_names) w.lists;
      surfaces = adds.surfaces ∙ ap (λ (old : Lists). old.surfaces ++ draft.surface ∷ []) w.lists;
      panels = adds.panels ∙ ap (λ (old : Lists). old.panels ++ draft.panels) w.lists;
      compartment_names = adds.compartment_names ∙ ap (λ (old : Lists). old.compartment_names) w.lists;
      compartments = adds.compartments ∙ ap (λ (old : Lists). old.compartments) w.lists;
      closed = refl;
    };
    blocks_kept = kept;
  };
}

-- the line that closes the block of a compartment, where that was added
pub compartment_closed : (tables : Tables) (start : List Said) → Holds tables start → (blocks : Blocks) (draft : CompartmentDraft) (block : TheBlock) (before : List Said)
    → Within tables tables.blocks.surface_names (tables.blocks.compartment_names ++ draft.name ∷ []) block before → AddsCompartment tables.blocks blocks draft → IsKept blocks
    → Holds (record tables { blocks = blocks }) (of_blocks (closes_compartment draft.compartment) ∷ before)
compartment_closed tables start h blocks draft block before w adds kept = record {
  plain = w.plain;
  groups = record {
    reactions = w.reactions;
    kept = h.kept;
    blocks = record {
      surface_names = adds.surface_names ∙ ap (λ (old : Lists). old.surface_names) w.lists;
      surfaces = adds.surfaces ∙ ap (λ (old : Lists). old.surfaces) w.lists;
      panels = adds.panels ∙ ap (λ (old : Lists). old.panels) w.lists;
      compartment_names = adds.compartment_names ∙ ap (λ (old : Lists). old.compartment_names) w.lists;
      compartments = adds.compartments ∙ ap (λ (old : Lists). old.compartments ++ draft.compartment ∷ []) w.lists;
      closed = refl;
    };
    blocks_kept = kept;
  };
}
