use Rattle.smol_confined.proofs.Moving.{motion_is_confined}
use Rattle.smol_confined.proofs.law.motion_stays_inside.Goals as goal

pub returns : goal.returns
returns c = motion_is_confined
