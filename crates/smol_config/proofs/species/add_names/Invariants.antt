use Rattle.std.proofs.Common.{◌≡◌, ◌++◌, ◌-◌, ℕ, take, drop, slice_index_or}
use Rattle.smol_line.specs.Names.{names_fault}
use Rattle.smol_config.specs.Species.{further_words, species_fault}
use Rattle.smol_config.specs.Motion.{still}
use Rattle.smol_config.proofs.species.add_names.Given as goal

-- the words so far are names now, and the others are left
abbrev pub invariant-loop-i : goal.invariant-loop-i
invariant-loop-i l = record {
  names : l.species.names ≡ l.initial.species.names ++ take (l.i - 1) (further_words l.line);
  rest : names_fault species_fault l.initial.species.names (further_words l.line) ≡ names_fault species_fault l.species.names (drop (l.i - 1) (further_words l.line));
  motions : (number : ℕ) → slice_index_or l.species.motions.items number still ≡ slice_index_or l.initial.species.motions.items number still;
}
