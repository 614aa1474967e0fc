use Rattle.smol_meaning.proofs.Sights.{meets_wall_decides}
use Rattle.smol_meaning.proofs.sight.a_line_meets_a_wall.Goals as goal

pub returns : goal.returns
returns c = meets_wall_decides
