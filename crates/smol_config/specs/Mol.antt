-- `mol N SPECIES P ...`: N molecules of a species at a place between the walls, a coordinate for each axis in use.
use Rattle.std.specs.Prelude.{ℕ, ◌+◌, pos, List, [], ◌∷◌, Option, None, Some, Result, Ok, if◌then◌else◌, codes}
use Rattle.std.specs.Str.{bytes_eq}
use Rattle.smol_text.specs.Reading.{Stated}
use Rattle.smol_types.specs.declared.fault.Kind.{Kind}
use Rattle.smol_types.specs.declared.placing.Given.{Given}
use Rattle.smol_types.specs.declared.placing.Given.TheVariants.{Any, At}
use Rattle.smol_types.specs.declared.placing.Placing.{Placing}
use Rattle.smol_types.specs.declared.placing.Placing.TheVariants as placing
use Rattle.smol_types.specs.Limits.{most_molecules}
use Rattle.smol_line.specs.declared.axes.Axes.{Axes}
use Rattle.smol_line.specs.declared.axes.Bounds.{Bounds}
use Rattle.smol_line.specs.Axes.{needs_walls, read_axes}
use Rattle.smol_line.specs.Coordinate.{coordinate_in}
use Rattle.smol_line.specs.Words.{word_at}
use Rattle.smol_line.specs.Checks.{word_count, passing, with_value}
use Rattle.smol_line.specs.Numbers.{count_in}
use Rattle.smol_line.specs.SpeciesWord.{species_word_in}
use Rattle.smol_config.specs.Said.{Said, places, gathered}

-- a coordinate between two walls: the word `u` is drawn there when the molecule is placed
unfoldable pub given_in : Bounds → List ℕ → Result Given Kind
given_in bounds word = if bytes_eq word (codes "u") then Ok Any else with_value (coordinate_in bounds word) (λ x. Ok (At x))

-- the coordinates of a line on the three axes, which is 1 on an axis that isn't in use
abbrev pub given_place_in : Axes → Stated → Result (List Given) Kind
given_place_in axes line = read_axes given_in (At (pos 1)) 3 axes line

unfoldable pub mol_in : Axes → List (List ℕ) → Stated → Result Placing Kind
mol_in axes species line =
    with_value (needs_walls axes) (λ dims.
    passing (word_count (3 + dims) line ∷ [])
    (with_value (count_in 0 most_molecules (word_at line 1)) (λ n.
    with_value (species_word_in species (word_at line 2)) (λ species.
    with_value (given_place_in axes line) (λ at.
    Ok (placing.Mol n species at))))))

abbrev pub said_placing : Said → Option (List Placing)
said_placing (places placing) = Some (placing ∷ [])
said_placing other = None

-- what the lines before place, in order
abbrev pub placings_of : List Said → List Placing
placings_of before = gathered said_placing before
