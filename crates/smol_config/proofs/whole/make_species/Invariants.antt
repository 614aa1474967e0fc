use Rattle.std.proofs.Common.{◌≡◌, ◌++◌, true, drop}
use Rattle.std.specs.List.{list_all}
use Rattle.smol_config.specs.Tables.{species_made}
use Rattle.smol_config.specs.Whole.{has_difstep}
use Rattle.smol_config.proofs.whole.make_species.Given as goal

-- the species so far, with those that are left, are all, and each of them is slow enough
abbrev pub invariant-loop-number : goal.invariant-loop-number
invariant-loop-number l = record {
  made : l.made ++ species_made l.time l.species.motions.items l.number (drop l.number l.species.names) ≡ species_made l.time l.species.motions.items 0 l.species.names;
  near : list_all has_difstep l.made ≡ true;
}
