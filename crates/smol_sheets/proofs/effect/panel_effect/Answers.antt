use Rattle.std.proofs.Common.{◌<◌, length, subst, sym}
use Rattle.smol_meaning.proofs.Becoming.{change_within}
use Rattle.smol_sheets.proofs.effect.panel_effect.Goals as goal

pub returns-clause-known : goal.returns-clause-known
returns-clause-known c =
    subst (λ species. species < length c.args.config.now.species) (sym c.change_at.ensures)
    (change_within c.args.config.now c.panels.ensures.sound c.args.number c.arrival_face-face.result c.args.species c.requires.species)
