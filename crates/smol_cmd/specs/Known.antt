-- What the lines before a line give that a command may name.
use Rattle.std.specs.Prelude.{ℕ, ◌≤◌, List, length}
use Rattle.smol_types.specs.Limits.{most_compartments, most_outputs, most_species}
use Rattle.smol_line.specs.declared.axes.Axes.{Axes}

-- the axes with their walls, and the names of species, compartments and output files, each in order
pub record Known : Type 0 where
  pub axes : Axes
  pub species : List (List ℕ)
  pub compartments : List (List ℕ)
  pub outputs : List (List ℕ)

abbrev pub known : Axes → List (List ℕ) → List (List ℕ) → List (List ℕ) → Known
known axes species compartments outputs =
    record { axes = axes; species = species; compartments = compartments; outputs = outputs }

-- there are no more of them than there may be
pub record AreFew (known : Known) : Type 0 where
  pub species : length known.species ≤ most_species
  pub compartments : length known.compartments ≤ most_compartments
  pub outputs : length known.outputs ≤ most_outputs
