use Rattle.std.proofs.Common.{◌≡◌, ◌≤◌, ◌++◌, length}
use Rattle.smol_macro.specs.Meanings.{replaced}
use Rattle.smol_macro.specs.Kept.{meanings_of}
use Rattle.smol_macro.proofs.replace.replace_names.Given as goal

abbrev pub invariant-loop-rest : goal.invariant-loop-rest
invariant-loop-rest l = record {
  same : l.line.items ++ replaced (meanings_of l.definitions) l.rest ≡ replaced (meanings_of l.definitions) l.fn.part;
  few : length l.line.items ≤ 4194305;
}

abbrev pub decreases-loop-rest : goal.decreases-loop-rest
decreases-loop-rest l = length l.rest
