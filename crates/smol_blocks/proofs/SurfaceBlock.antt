-- The block of a surface, by how its parts are read.
use Rattle.std.proofs.Common.{◌≡◌, [], ℕ, List, length, Result, Ok, Err, refl, sym, ap, ◌∙◌, subst}
use Rattle.smol_text.specs.Reading.{Stated}
use Rattle.smol_types.specs.declared.fault.ConfigFault.{ConfigFault}
use Rattle.smol_types.specs.declared.fault.ConfigFault.TheVariants as config_fault
use Rattle.smol_types.specs.declared.fault.Kind.{Kind}
use Rattle.smol_types.specs.declared.surface.Panel.{Panel as ThePanel}
use Rattle.smol_types.specs.declared.surface.Surface.{Surface as TheSurface}
use Rattle.smol_types.specs.Limits.{most_surfaces}
use Rattle.smol_line.specs.declared.axes.Axes.{Axes}
use Rattle.smol_line.specs.Axes.{needs_dim}
use Rattle.smol_line.specs.Checks.{with_value}
use Rattle.smol_line.specs.Fault.{Fault, fault_at, TellsFault}
use Rattle.smol_blocks.specs.declared.drafts.SurfaceDraft.{SurfaceDraft}
use Rattle.smol_blocks.specs.declared.surface_table.SurfaceTable.{SurfaceTable}
use Rattle.smol_blocks.specs.Blocks.{panels_in}
use Rattle.smol_blocks.specs.BlockName.{block_name_in}
use Rattle.smol_blocks.specs.BlockReads.{HoldsBlock}
use Rattle.smol_blocks.specs.BlockText.{block_from, in_surface_block, surface_block, surface_draft}
use Rattle.smol_blocks.specs.Surface.{SurfaceSaid}
use Rattle.smol_blocks.specs.SurfaceTable.{Holds, IsReady, known_of}
use Rattle.smol_blocks.proofs.SurfaceMade.{surface_is}

module _ (axes : Axes) (species surfaces : List (List ℕ)) (panels : ℕ) (line : Stated) (at : ℕ) (lines : List Stated) where
  -- a name that is refused
  pub surface_refused : (kind : Kind) → block_name_in axes surfaces most_surfaces line ≡ Err kind → surface_block axes species surfaces panels line at lines ≡ Err (fault_at line.number kind)
  unfolding surface_block
  surface_refused kind named = rw named refl

  -- axes that aren't given
  pub surface_unplaced : (name : List ℕ) (kind : Kind) → block_name_in axes surfaces most_surfaces line ≡ Ok name → needs_dim axes ≡ Err kind → surface_block axes species surfaces panels line at lines ≡ Err (fault_at line.number kind)
  unfolding surface_block
  surface_unplaced name kind named dim = rw (named, dim) refl

  -- else the lines of the block are read
  pub surface_opened : (name : List ℕ) (dims : ℕ) → block_name_in axes surfaces most_surfaces line ≡ Ok name → needs_dim axes ≡ Ok dims
      → surface_block axes species surfaces panels line at lines
      ≡ with_value (block_from (in_surface_block (known_of dims species panels)) line.number [] at lines) (λ read. Ok (surface_draft (known_of dims species panels) name (length surfaces) read.0, read.1))
  unfolding surface_block
  surface_opened name dims named dim = rw (named, dim) refl

  -- a fault in them
  pub surface_faulty : (name : List ℕ) (dims : ℕ) (fault : ConfigFault) → block_name_in axes surfaces most_surfaces line ≡ Ok name → needs_dim axes ≡ Ok dims
      → TellsFault fault (block_from (in_surface_block (known_of dims species panels)) line.number [] at lines) → TellsFault fault (surface_block axes species surfaces panels line at lines)
  surface_faulty name dims fault named dim tells =
      subst (TellsFault fault) (sym (surface_opened name dims named dim)) (told fault (block_from (in_surface_block (known_of dims species panels)) line.number [] at lines) tells)
    where
      told : (fault : ConfigFault) (read : Result (List SurfaceSaid × ℕ) Fault) → TellsFault fault read → TellsFault {T = SurfaceDraft × ℕ} fault (with_value read (λ read. Ok (surface_draft (known_of dims species panels) name (length surfaces) read.0, read.1)))
      told (config_fault.At number kind) read tells = ap (λ (r : Result (List SurfaceSaid × ℕ) Fault). with_value r (λ read. Ok (surface_draft (known_of dims species panels) name (length surfaces) read.0, read.1))) tells
      told config_fault.OutOfMemory read tells = tt

  -- what a table of the lines gives
  pub surface_drafted : (name : List ℕ) (dims next number : ℕ) (table : SurfaceTable) (draft : SurfaceDraft) → block_name_in axes surfaces most_surfaces line ≡ Ok name → needs_dim axes ≡ Ok dims
      → HoldsBlock Holds (block_from (in_surface_block (known_of dims species panels)) line.number [] at lines) table next → IsReady table (length species) → number ≡ length surfaces
      → draft.name ≡ name → draft.surface ≡ record { front = table.actions.front.actions.items; back = table.actions.back.actions.items; front_new = table.actions.front.changes.items; back_new = table.actions.back.changes.items }
      → ((said : List SurfaceSaid) → Holds table said → draft.panels ≡ panels_in number panels said)
      → surface_block axes species surfaces panels line at lines ≡ Ok (draft, next)
  surface_drafted name dims next number table draft named dim read ready count same made shown =
      let known = known_of dims species panels in
      let surface = made ∙ surface_is table known read.0 ready read.2 in
      let faces = shown read.0 read.2 ∙ ap (λ n. panels_in n panels read.0) count in
      let drafted : surface_draft known name (length surfaces) read.0 ≡ draft = λ i. record { name = sym same i; surface = sym surface i; panels = sym faces i } in
      surface_opened name dims named dim
      ∙ ap (λ (r : Result (List SurfaceSaid × ℕ) Fault). with_value r (λ read. Ok (surface_draft known name (length surfaces) read.0, read.1))) read.1
      ∙ ap (λ (d : SurfaceDraft). Ok (d, next)) drafted
