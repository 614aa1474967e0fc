-- The table of a block with what one line more says.
use Rattle.std.proofs.Common.{◌≡◌, ◌&&◌, ◌++◌, ◌∷◌, [], ℕ, zero, suc, List, get_or, slice_index_or, None, Result, Ok, Err, OnOk, refl, sym, ap, ◌∙◌, if◌then◌else◌}
use Rattle.std.specs.Result.{IsOkAnd}
use Rattle.smol_text.specs.Reading.{Stated}
use Rattle.smol_types.specs.declared.fault.Kind.{Kind}
use Rattle.smol_types.specs.declared.surface.Action.TheVariants.{Transmit}
use Rattle.smol_types.specs.declared.surface.Face.TheVariants.{Front, Back}
use Rattle.smol_line.specs.declared.refusal.Refusal.{Refusal}
use Rattle.smol_line.specs.declared.refusal.Refusal.TheVariants.{At, OutOfMemory}
use Rattle.smol_line.specs.LookingBack.{nearer, say}
use Rattle.smol_line.specs.SpeciesWord.{is_chosen}
use Rattle.smol_blocks.specs.declared.action.Acting.{Acting}
use Rattle.smol_blocks.specs.declared.action_table.ActionTable.{ActionTable}
use Rattle.smol_blocks.specs.declared.jump.Leading.{Leading}
use Rattle.smol_blocks.specs.declared.panel_table.PanelTable.{PanelTable}
use Rattle.smol_blocks.specs.declared.surface_statement.SurfaceStatement.TheVariants as statement
use Rattle.smol_blocks.specs.declared.surface_table.SurfaceTable.{SurfaceTable}
use Rattle.smol_blocks.specs.Jump.{jump_in}
use Rattle.smol_blocks.specs.Panel.{Named, panel_in}
use Rattle.smol_blocks.specs.Surface.{SurfaceSaid, acts, shows, leads, Known, means_face, led_by, rects_of, surface_line_in}
use Rattle.smol_blocks.specs.SurfaceTable.{AddsPanel, AddsJump, Holds, Reads}

-- a value of which the fact holds
is_ok_and : {T E : Type 0} (r : Result T E) (P : T → Type 0) → IsOkAnd r P → (v : T) × (r ≡ Ok v) × P v
is_ok_and (Ok v) P h = (v, refl, h)
is_ok_and (Err e) P h = absurd h

-- one entry more that is the default changes no look-up
pushed_default : {X : Type 0} (xs : List X) (d : X) (k : ℕ) → get_or (xs ++ d ∷ []) k d ≡ get_or xs k d
pushed_default [] d zero = refl
pushed_default [] d (suc k) = refl
pushed_default (x ∷ xs) d zero = refl
pushed_default (x ∷ xs) d (suc k) = pushed_default xs d k

pub acts_held : (table : SurfaceTable) (before : List SurfaceSaid) (acting : Acting) (new : ActionTable)
    → ((species : ℕ) → slice_index_or new.front.actions.items species Transmit ≡ (if means_face acting.faces Front && is_chosen species acting.who then acting.action else slice_index_or table.actions.front.actions.items species Transmit))
    → ((species : ℕ) → slice_index_or new.back.actions.items species Transmit ≡ (if means_face acting.faces Back && is_chosen species acting.who then acting.action else slice_index_or table.actions.back.actions.items species Transmit))
    → ((species : ℕ) → slice_index_or new.front.changes.items species None ≡ (if means_face acting.faces Front && is_chosen species acting.who then acting.new else slice_index_or table.actions.front.changes.items species None))
    → ((species : ℕ) → slice_index_or new.back.changes.items species None ≡ (if means_face acting.faces Back && is_chosen species acting.who then acting.new else slice_index_or table.actions.back.changes.items species None))
    → Holds table before → Holds (record table { actions = new }) (acts acting ∷ before)
acts_held table before acting new front back front_new back_new h = record {
  names = h.names;
  rects = h.rects;
  sides = h.sides;
  front = λ species. front species ∙ ap (λ old. if means_face acting.faces Front && is_chosen species acting.who then acting.action else old) (h.front species);
  back = λ species. back species ∙ ap (λ old. if means_face acting.faces Back && is_chosen species acting.who then acting.action else old) (h.back species);
  front_new = λ species. front_new species ∙ ap (λ old. if means_face acting.faces Front && is_chosen species acting.who then acting.new else old) (h.front_new species);
  back_new = λ species. back_new species ∙ ap (λ old. if means_face acting.faces Back && is_chosen species acting.who then acting.new else old) (h.back_new species);
  front_to = h.front_to;
  back_to = h.back_to;
}

shows_held : (table : SurfaceTable) (before : List SurfaceSaid) (panel : Named) (new : PanelTable) → AddsPanel table.panels new panel → Holds table before → Holds (record table { panels = new }) (shows panel ∷ before)
shows_held table before panel new adds h = record {
  names = adds.names ∙ ap (λ old. old ++ panel.name ∷ []) h.names;
  rects = adds.rects ∙ ap (λ old. old ++ panel.rect ∷ []) h.rects;
  sides = adds.sides ∙ ap (λ old. old ++ panel.facing.greater ∷ []) h.sides;
  front = h.front;
  back = h.back;
  front_new = h.front_new;
  back_new = h.back_new;
  front_to = λ number. ap (λ to. get_or to number None) adds.front_to ∙ pushed_default table.panels.front_to.items None number ∙ h.front_to number;
  back_to = λ number. ap (λ to. get_or to number None) adds.back_to ∙ pushed_default table.panels.back_to.items None number ∙ h.back_to number;
}

leads_held : (table : SurfaceTable) (before : List SurfaceSaid) (leading : Leading) (new : PanelTable) → AddsJump table.panels new leading → Holds table before → Holds (record table { panels = new }) (leads leading ∷ before)
leads_held table before leading new adds h = record {
  names = adds.names ∙ h.names;
  rects = adds.rects ∙ h.rects;
  sides = adds.sides ∙ h.sides;
  front = h.front;
  back = h.back;
  front_new = h.front_new;
  back_new = h.back_new;
  front_to = λ panel. adds.front_to panel ∙ ap (nearer (led_by leading panel Front)) (h.front_to panel);
  back_to = λ panel. adds.back_to panel ∙ ap (nearer (led_by leading panel Back)) (h.back_to panel);
}

-- how the reading of a `panel` line ends
pub panel_reads : {T : Type 0} (known : Known) (line : Stated) (table : SurfaceTable) (new : PanelTable) (result : Result T Refusal)
    → OnOk result (IsOkAnd (panel_in known.dims known.others table.panels.names line) (AddsPanel table.panels new))
    → ((kind : Kind) → result ≡ Err (At kind) → panel_in known.dims known.others table.panels.names line ≡ Err kind)
    → Reads (surface_line_in statement.Panel known) line table (record table { panels = new }) result
unfolding surface_line_in
panel_reads known line table new (Ok done) added refused = λ before h.
    let panel = is_ok_and (panel_in known.dims known.others table.panels.names line) (AddsPanel table.panels new) added in
    (shows panel.0, ap (λ names. say shows (panel_in known.dims known.others names line)) (sym h.names) ∙ ap (say shows) panel.1, shows_held table before panel.0 new panel.2 h)
panel_reads known line table new (Err (At kind)) added refused = λ before h.
    ap (λ names. say shows (panel_in known.dims known.others names line)) (sym h.names) ∙ ap (say shows) (refused kind refl)
panel_reads known line table new (Err OutOfMemory) added refused = tt

-- what a `jump` line says, or its fault
abbrev pub JumpOutcome : {T : Type 0} → Known → Stated → SurfaceTable → PanelTable → Result T Kind → List SurfaceSaid → Type 0
JumpOutcome known line table new (Ok done) before =
    (said : SurfaceSaid) × (surface_line_in statement.Jump known before line ≡ Ok said) × Holds (record table { panels = new }) (said ∷ before)
JumpOutcome known line table new (Err kind) before = surface_line_in statement.Jump known before line ≡ Err kind

-- how the reading of a `jump` line ends
pub jump_reads : {T : Type 0} (known : Known) (line : Stated) (table : SurfaceTable) (new : PanelTable) (result : Result T Kind)
    → OnOk result (IsOkAnd (jump_in table.panels.names table.panels.rects.items line) (AddsJump table.panels new))
    → ((kind : Kind) → result ≡ Err kind → jump_in table.panels.names table.panels.rects.items line ≡ Err kind)
    → (before : List SurfaceSaid) → Holds table before → JumpOutcome known line table new result before
unfolding surface_line_in
jump_reads known line table new (Ok done) set refused = λ before h.
    let leading = is_ok_and (jump_in table.panels.names table.panels.rects.items line) (AddsJump table.panels new) set in
    (leads leading.0, ap (λ names. say leads (jump_in names (rects_of before) line)) (sym h.names) ∙ ap (λ rects. say leads (jump_in table.panels.names rects line)) (sym h.rects) ∙ ap (say leads) leading.1, leads_held table before leading.0 new leading.2 h)
jump_reads known line table new (Err kind) set refused = λ before h.
    ap (λ names. say leads (jump_in names (rects_of before) line)) (sym h.names) ∙ ap (λ rects. say leads (jump_in table.panels.names rects line)) (sym h.rects) ∙ ap (say leads) (refused kind refl)
