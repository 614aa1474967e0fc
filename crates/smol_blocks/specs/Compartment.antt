-- What the lines of a compartment's block say, and the compartment that comes of them. The lines before a line stand nearest first.
use Rattle.std.specs.Prelude.{ℕ, ◌+◌, nat_lt, ℤ, pos, List, [], ◌∷◌, ◌++◌, length, Result, Ok}
use Rattle.smol_geom.specs.declared.place.Place.{Place}
use Rattle.smol_text.specs.Reading.{Stated}
use Rattle.smol_types.specs.declared.compartment.Compartment.{Compartment}
use Rattle.smol_types.specs.declared.fault.Kind.{Kind}
use Rattle.smol_types.specs.declared.fault.Kind.TheVariants.{Missing, TooMany}
use Rattle.smol_types.specs.declared.fault.Need.TheVariants.{Point}
use Rattle.smol_types.specs.Limits.{most_bounds, most_points}
use Rattle.smol_line.specs.declared.axes.Axes.{Axes}
use Rattle.smol_line.specs.declared.axes.Bounds.{Bounds}
use Rattle.smol_line.specs.Axes.{needs_walls, read_axes}
use Rattle.smol_line.specs.Checks.{unless, word_count, passing, with_value}
use Rattle.smol_line.specs.Coordinate.{ticks_within}
use Rattle.smol_line.specs.Length.{micros_in}
use Rattle.smol_line.specs.SpeciesWord.{number_in}
use Rattle.smol_line.specs.Words.{word_at}

-- what a line of the block says
pub data CompartmentSaid : Type 0 where
  -- that the surface of this number bounds it
  bounded : ℕ → CompartmentSaid
  -- that this point lies inside
  holds : Place → CompartmentSaid

-- the surfaces that the lines before name, in order
abbrev pub surfaces_named : List CompartmentSaid → List ℕ
surfaces_named [] = []
surfaces_named (bounded surface ∷ before) = surfaces_named before ++ surface ∷ []
surfaces_named (holds point ∷ before) = surfaces_named before

-- the points that the lines before give, in order
abbrev pub points_given : List CompartmentSaid → List Place
points_given [] = []
points_given (bounded surface ∷ before) = points_given before
points_given (holds point ∷ before) = points_given before ++ point ∷ []

-- `surface NAME`: a surface of an earlier line, by these names of surfaces. It may be named twice
unfoldable pub bound_in : List (List ℕ) → List CompartmentSaid → Stated → Result ℕ Kind
bound_in surfaces before line =
    passing (word_count 2 line ∷ [])
    (with_value (number_in surfaces (word_at line 1)) (λ surface.
    passing (unless (nat_lt (length (surfaces_named before)) most_bounds) TooMany ∷ []) (Ok surface)))

-- a coordinate of a point in ticks: as a molecule would stand there, and also where no molecule may
abbrev pub point_word : Bounds → List ℕ → Result ℤ Kind
point_word bounds word = with_value (micros_in word) (λ x. Ok (ticks_within bounds x))

-- `point X ...`: a point inside, a coordinate for each axis in use
unfoldable pub point_in : Axes → List CompartmentSaid → Stated → Result Place Kind
point_in axes before line =
    with_value (needs_walls axes) (λ dims.
    passing (word_count (1 + dims) line ∷ [])
    (with_value (read_axes point_word (pos 1) 1 axes line) (λ at.
    passing (unless (nat_lt (length (points_given before)) most_points) TooMany ∷ []) (Ok (record { 0 = at })))))

-- the compartment of a block
abbrev pub compartment_of : List CompartmentSaid → Compartment
compartment_of before = record { surfaces = surfaces_named before; points = points_given before }

-- `end_compartment`: the compartment, which has a point
unfoldable pub end_compartment_in : List CompartmentSaid → Stated → Result Compartment Kind
end_compartment_in before line =
    passing (word_count 1 line ∷ unless (nat_lt 0 (length (points_given before))) (Missing Point) ∷ []) (Ok (compartment_of before))
