use Rattle.std.proofs.Common.{get_or}
use Rattle.smol_meaning.specs.Seen.{plates_of}
use Rattle.smol_meaning.proofs.Crossings.{crosses_none}
use Rattle.smol_meaning.proofs.law.no_way_of_a_run_crosses.Goals as goal

pub returns : goal.returns
returns c = λ draft seed run ran i d within.
    crosses_none (plates_of draft) (get_or run.moves i d).species (get_or run.moves i d).from (get_or run.moves i d).by
