use Rattle.smol_meaning.specs.Seen.{plates_of}
use Rattle.smol_meaning.proofs.Crossings.{crosses_none}
use Rattle.smol_meaning.proofs.law.no_way_crosses.Goals as goal

pub returns : goal.returns
returns c = λ draft species from by. crosses_none (plates_of draft) species from by
