use Rattle.std.proofs.Common.{◌≡◌, ◌+◌, ◌-◌, ◌*◌, ◌%◌, ◌^◌, ◌≤◌, sum, flat_map}
use Rattle.smol_streams.specs.Displacement.{draws_of, words_from}
use Rattle.smol_streams.specs.Generator.{moved}
use Rattle.smol_streams.proofs.streams.centred_sum.Given as goal

abbrev pub invariant-loop : goal.invariant-loop
invariant-loop l = record {
  stands : l.generator ≡ moved l.fn.generator l.stream ((l.place + l.counter) % 2 ^ 68);
  so_far : l.sum ≡ sum (flat_map draws_of (words_from l.fn.generator.key l.stream l.place l.counter));
  small : l.sum ≤ 131070 * l.counter;
}

abbrev pub decreases-loop : goal.decreases-loop
decreases-loop l = 6 - l.counter
