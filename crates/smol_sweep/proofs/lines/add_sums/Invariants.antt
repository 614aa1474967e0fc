use Rattle.std.proofs.Common.{◌≡◌, ◌++◌, ◌-◌}
use Rattle.smol_meaning.specs.Lines.{spaced}
use Rattle.smol_sweep.specs.Table.{ended_in, for_species, word_of}
use Rattle.smol_sweep.proofs.lines.add_sums.Given as goal

-- what is added so far, and the species that are left
abbrev pub invariant-loop-index : goal.invariant-loop-index
invariant-loop-index l =
    l.text.items ++ spaced (for_species l.told (ended_in l.outcomes) l.index (l.species - l.index))
    ≡ (l.fn.text.items ++ word_of l.told) ++ spaced (for_species l.told (ended_in l.outcomes) 0 l.species)
