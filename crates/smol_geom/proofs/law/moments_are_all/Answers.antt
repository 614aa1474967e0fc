use Rattle.smol_geom.proofs.Evens.{are_all}
use Rattle.smol_geom.proofs.law.moments_are_all.Goals as goal

pub returns : goal.returns
returns c = are_all
