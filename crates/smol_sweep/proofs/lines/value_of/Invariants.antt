use Rattle.std.proofs.Common.{◌≡◌, ◌+◌, ◌*◌, ◌≤◌, drop, fold}
use Rattle.smol_sweep.specs.Table.{start_of, with_outcome}
use Rattle.smol_sweep.proofs.lines.value_of.Given as goal

-- what the outcomes so far give, and those that are left
abbrev pub invariant-loop-outcome : goal.invariant-loop-outcome
invariant-loop-outcome l = record {
  folded : fold (with_outcome l.told l.species) l.value (drop l.outcome-index l.outcomes)
      ≡ fold (with_outcome l.told l.species) (start_of l.told) l.outcomes;
  small : l.value ≤ 1000000 * (l.outcome-index + 1);
}
