use Rattle.std.proofs.Common.{◌≡◌, map}
use Rattle.std.specs.List.{range_with_len}
use Rattle.smol_births.specs.Chances.{chance_of}
use Rattle.smol_births.proofs.alone.chances_of.Given as goal

-- the chances of the species so far
abbrev pub invariant-loop-species : goal.invariant-loop-species
invariant-loop-species l = l.chances.items ≡ map (chance_of l.config.reactions) (range_with_len 0 l.species)
