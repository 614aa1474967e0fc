-- `compartment_mol N SPECIES CMPT`: N molecules of a species, each at a place that is drawn inside a compartment.
use Rattle.std.specs.Prelude.{ℕ, List, [], ◌∷◌, Result, Ok}
use Rattle.smol_text.specs.Reading.{Stated}
use Rattle.smol_types.specs.declared.fault.Kind.{Kind}
use Rattle.smol_types.specs.declared.placing.Placing.{Placing}
use Rattle.smol_types.specs.declared.placing.Placing.TheVariants as placing
use Rattle.smol_types.specs.Limits.{most_molecules}
use Rattle.smol_line.specs.declared.axes.Axes.{Axes}
use Rattle.smol_line.specs.Axes.{needs_walls}
use Rattle.smol_line.specs.Words.{word_at}
use Rattle.smol_line.specs.Checks.{word_count, passing, with_value}
use Rattle.smol_line.specs.Numbers.{count_in}
use Rattle.smol_line.specs.SpeciesWord.{number_in, species_word_in}

-- what a line places, beside species and compartments of these names
unfoldable pub compartment_mol_in : Axes → List (List ℕ) → List (List ℕ) → Stated → Result Placing Kind
compartment_mol_in axes species compartments line =
    with_value (needs_walls axes) (λ dims.
    passing (word_count 4 line ∷ [])
    (with_value (count_in 0 most_molecules (word_at line 1)) (λ n.
    with_value (species_word_in species (word_at line 2)) (λ species.
    with_value (number_in compartments (word_at line 3)) (λ compartment.
    Ok (placing.InCompartment line.number n species compartment))))))
