use Rattle.smol_meaning.proofs.Becoming.{way_ends_among}
use Rattle.smol_meaning.proofs.Ends.{way_ends_within}
use Rattle.smol_meaning.proofs.law.ways_end_near.Goals as goal

pub returns-clause-species : goal.returns-clause-species
returns-clause-species c = way_ends_among

pub returns-clause-place : goal.returns-clause-place
returns-clause-place c = way_ends_within
