use Rattle.std.proofs.lemmas.Bool.Decides.{same_from_decides}
use Rattle.smol_meaning.proofs.Sights.{meets_decides}
use Rattle.smol_meaning.proofs.sight.meets_panel.Goals as goal

pub returns : goal.returns
returns c =
    same_from_decides _ _ c.meets.ensures
    (meets_decides c.args.rect.now c.args.a.now c.args.b.now c.requires.rect c.requires.a c.requires.b)
