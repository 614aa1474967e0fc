use Rattle.std.proofs.Common.{◌≡◌, ◌-◌}
use Rattle.smol_meaning.specs.Placement.{first_inside, most_tries}
use Rattle.smol_compart.proofs.draw.first_inside.Given as goal

-- what the tries that are left find is what all find
abbrev pub invariant-loop-attempt : goal.invariant-loop-attempt
invariant-loop-attempt l = record {
  found : first_inside l.config l.streams l.serial l.compartment l.attempt (most_tries - l.attempt)
      ≡ first_inside l.config l.streams l.serial l.compartment 0 most_tries;
  seed : l.streams ≡ l.initial.streams;
}
