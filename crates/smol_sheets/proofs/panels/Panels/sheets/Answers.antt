use Rattle.std.proofs.Common.{◌+◌, length, ap, sym, subst, ◌∙◌}
use Rattle.std.specs.Prelude.{All}
use Rattle.smol_types.specs.declared.draft.Draft.{Draft}
use Rattle.smol_meaning.specs.Folds.{IsSheet}
use Rattle.smol_sheets.proofs.Numbered.{sheet_count, sheets_fit}
use Rattle.smol_sheets.proofs.panels.Panels.sheets.Goals as goal

pub returns-clause-count : goal.returns-clause-count
returns-clause-count c =
    ap length (c.as_slice.ensures.value ∙ c.self.invariant.1) ∙ sheet_count c.self.inside.config.now
    ∙ ap (λ (draft : Draft). length draft.panels + length draft.walls) c.self.view_is

pub returns-clause-bounds : goal.returns-clause-bounds
returns-clause-bounds c =
    subst (All IsSheet) (sym (c.as_slice.ensures.value ∙ c.self.invariant.1)) (sheets_fit c.self.inside.config.now c.self.invariant.0)
