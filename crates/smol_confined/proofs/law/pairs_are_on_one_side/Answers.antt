use Rattle.smol_confined.proofs.Pairing.{pairs_are_confined}
use Rattle.smol_confined.proofs.law.pairs_are_on_one_side.Goals as goal

pub returns : goal.returns
returns c = pairs_are_confined
