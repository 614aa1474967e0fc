use Rattle.std.proofs.Common.{◌≡◌, ◌≤◌, ◌*◌, take}
use Rattle.smol_types.specs.Limits.{fastest}
use Rattle.smol_reactions.specs.Rates.{rate_sum}
use Rattle.smol_reactions.proofs.rates.rate_sum.Given as goal

abbrev pub invariant-loop-i : goal.invariant-loop-i
invariant-loop-i l = record {
  sum : l.sum ≡ rate_sum l.species (take l.i l.list);
  most : l.sum ≤ l.i * fastest;
}
