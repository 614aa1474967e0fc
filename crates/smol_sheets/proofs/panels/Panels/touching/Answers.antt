use Rattle.std.proofs.Common.{◌≡◌, ℕ, ◌<◌, length, subst}
use Rattle.std.specs.Prelude.{All, Contains, Some, slice_get}
use Rattle.smol_cells.specs.TouchingLeft.{touching_left}
use Rattle.smol_types.specs.declared.draft.Draft.{Draft}
use Rattle.smol_meaning.specs.declared.sheet.Sheet.{Sheet}
use Rattle.smol_sheets.specs.Sheets.{IsReached, sheets_of}
use Rattle.smol_sheets.proofs.Near.{near_known, near_met}
use Rattle.smol_sheets.proofs.panels.Panels.touching.Goals as goal

pub returns-clause-known : goal.returns-clause-known
returns-clause-known c =
    subst (λ (draft : Draft). All (λ (number : ℕ). number < length draft.panels) (touching_left c.touching.result)) c.self.view_is
    (near_known c.self.inside.config.now c.self.inside.cells (touching_left c.touching.result) c.args.c.now c.limited.result
    (c.touching.ensures _ c.self.invariant.3))

pub returns-clause-near : goal.returns-clause-near
returns-clause-near c =
    subst (λ (draft : Draft). (number : ℕ) (sheet : Sheet) → number < length draft.panels → slice_get (sheets_of draft) number ≡ Some sheet
    → IsReached c.args.c.now sheet → Contains (touching_left c.touching.result) number) c.self.view_is
    (near_met c.self.inside.config.now c.self.inside.cells (touching_left c.touching.result) c.args.c.now c.limited.result
    (c.touching.ensures _ c.self.invariant.3) c.self.invariant.0 c.limited.ensures.meets)
