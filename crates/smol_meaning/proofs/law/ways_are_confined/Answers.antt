use Rattle.smol_meaning.specs.Seen.{plates_of}
use Rattle.smol_meaning.proofs.Confined.{confined}
use Rattle.smol_meaning.proofs.Seeing.{plates_fit}
use Rattle.smol_meaning.proofs.law.ways_are_confined.Goals as goal

pub returns : goal.returns
returns c = λ draft species from by among box sound move kin closed inside.
    confined draft.dims (plates_of draft) among box from by move (plates_fit draft sound) closed species kin inside
