use Rattle.std.proofs.Common.{◌≡◌, true}
use Rattle.smol_reactions.specs.Rates.{are_enough}
use Rattle.smol_reactions.proofs.rates.are_enough.Given as goal

abbrev pub invariant-loop-species : goal.invariant-loop-species
invariant-loop-species l = are_enough l.species l.reactions ≡ true
