-- The species that a command means.
use Rattle.std.specs.Prelude.{ℕ, ◌-◌, List, Result, Ok}
use Rattle.std.specs.List.{range_with_len}
use Rattle.smol_types.specs.declared.fault.Kind.{Kind}
use Rattle.smol_line.specs.declared.species_word.Chosen.{Chosen}
use Rattle.smol_line.specs.Checks.{with_value}
use Rattle.smol_line.specs.SpeciesWord.{chosen_in}

-- the numbers of species that are meant, ascending
abbrev pub numbers_of : Chosen → List ℕ
numbers_of chosen = range_with_len chosen.first (chosen.end - chosen.first)

-- the numbers of the species that a word means, of these names
abbrev pub who_in : List (List ℕ) → List ℕ → Result (List ℕ) Kind
who_in species word = with_value (chosen_in species word) (λ chosen. Ok (numbers_of chosen))
