use Rattle.std.proofs.Common.{ap, subst, sym, ◌∙◌}
use Rattle.std.specs.Prelude.{All, map}
use Rattle.smol_cells.specs.Kept.{AreOf}
use Rattle.smol_cells.specs.Numbered.{boxes_of_rect}
use Rattle.smol_meaning.specs.Folds.{IsPanelRect, IsSheet}
use Rattle.smol_meaning.proofs.Seeing.{rects_fit}
use Rattle.smol_sheets.specs.Sheets.{rect_of, stand_of}
use Rattle.smol_sheets.proofs.Numbered.{all_sheets_are, sheets_fit}
use Rattle.smol_sheets.proofs.panels.Panels.of.Goals as goal

pub all_stands-requires : goal.all_stands-requires
all_stands-requires c =
    let are = all_sheets_are c.args.config.now _ _ c.panels.ensures.value c.walls.ensures.value in
    subst (All IsSheet) (sym (c.as_slice.ensures.value ∙ c.in_ok-sheets.ensures ∙ are)) (sheets_fit c.args.config.now c.panels.ensures.sound)

pub cells_of-requires : goal.cells_of-requires
cells_of-requires c =
    subst (λ panels. All IsPanelRect (map rect_of panels)) (sym c.panels-2.ensures.value) (rects_fit c.args.config.now c.panels-2.ensures.sound)

pub invariant_of-result : goal.invariant_of-result
invariant_of-result c =
    let are = all_sheets_are c.args.config.now _ _ c.panels.ensures.value c.walls.ensures.value in (
      c.panels.ensures.sound,
      c.in_ok-sheets.ensures ∙ are,
      c.in_ok-stands.ensures ∙ ap (map stand_of) (c.as_slice.ensures.value ∙ c.in_ok-sheets.ensures ∙ are),
      subst (λ panels. AreOf (map (boxes_of_rect c.in_ok-cells.cells.grid) (map rect_of panels)) c.in_ok-cells.cells) c.panels-2.ensures.value c.in_ok-cells.ensures,
    )
