use Rattle.std.proofs.Common.{◌≡◌, ◌+◌, ◌*◌, ◌≤◌, drop}
use Rattle.smol_reactions.specs.Content.{chance_sum}
use Rattle.smol_reactions.proofs.reactions.chance_sum.Given as goal

abbrev pub invariant-loop-i : goal.invariant-loop-i
invariant-loop-i l = record {
  size : l.sum ≤ l.i * 4294967295;
  rest : chance_sum l.species l.list l.chances ≡ l.sum + chance_sum l.species (drop l.i l.list) (drop l.i l.chances);
}
