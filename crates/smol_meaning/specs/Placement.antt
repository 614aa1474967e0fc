-- The molecules of a run before its first step.
use Rattle.std.specs.Prelude.{ℕ, zero, suc, ◌+◌, ℤ, pos, List, [], ◌∷◌, ◌++◌, Option, None, Some, Result, Ok, Err, if◌then◌else◌, sum_by}
use Rattle.smol_geom.specs.declared.place.Place.{Place}
use Rattle.smol_types.specs.declared.draft.Draft.{Draft}
use Rattle.smol_types.specs.declared.placing.Given.{Given}
use Rattle.smol_types.specs.declared.placing.Given.TheVariants.{Any, At}
use Rattle.smol_types.specs.declared.placing.Placing.{Placing}
use Rattle.smol_types.specs.declared.placing.Placing.TheVariants as placing
use Rattle.smol_types.specs.declared.state.Mol.{Mol}
use Rattle.smol_types.specs.declared.state.State.{State}
use Rattle.smol_types.specs.declared.wall.Wall.{Wall}
use Rattle.smol_types.specs.Placings.{placed_by}
use Rattle.smol_streams.specs.Chance.{coordinate_drawn}
use Rattle.smol_meaning.specs.Inside.{is_inside}

-- how often a place is drawn for a molecule that is to be inside a compartment
abbrev pub most_tries : ℕ
most_tries = 1000

-- the statement and the molecule for which no place was found
pub record NoPlace : Type 0 where
  pub line : ℕ
  pub serial : ℕ

-- a coordinate between two walls: as given, or drawn for a molecule at a try
abbrev pub coordinate_at : ℕ → ℕ → ℕ → ℕ → Wall → Wall → Given → ℤ
coordinate_at seed serial try axis lower upper Any = coordinate_drawn seed serial try axis lower.plane upper.plane
coordinate_at seed serial try axis lower upper (At x) = x

-- a coordinate on an axis that isn't in use
abbrev pub coordinate_unused : Given → ℤ
coordinate_unused Any = pos 1
coordinate_unused (At x) = x

-- the coordinates of a molecule at a try, on the axes from this one on, which have these walls
abbrev pub coordinates_at : ℕ → ℕ → ℕ → ℕ → List Wall → List Given → List ℤ
coordinates_at seed serial try axis walls [] = []
coordinates_at seed serial try axis [] (given ∷ more) = coordinate_unused given ∷ coordinates_at seed serial try (axis + 1) [] more
coordinates_at seed serial try axis (lower ∷ []) (given ∷ more) =
    coordinate_unused given ∷ coordinates_at seed serial try (axis + 1) [] more
coordinates_at seed serial try axis (lower ∷ upper ∷ walls) (given ∷ more) =
    coordinate_at seed serial try axis lower upper given ∷ coordinates_at seed serial try (axis + 1) walls more

-- the place of a molecule at a try
abbrev pub place_at_try : Draft → ℕ → ℕ → ℕ → List Given → Place
place_at_try draft seed serial try given = record { 0 = coordinates_at seed serial try 0 draft.walls given }

-- all coordinates are to be drawn
abbrev pub anywhere : List Given
anywhere = Any ∷ Any ∷ Any ∷ []

-- the first place inside a compartment of so many tries from this one on
unfoldable pub first_inside : Draft → ℕ → ℕ → ℕ → ℕ → ℕ → Option Place
first_inside draft seed serial compartment try zero = None
first_inside draft seed serial compartment try (suc left) =
    if is_inside draft compartment (place_at_try draft seed serial try anywhere)
    then Some (place_at_try draft seed serial try anywhere)
    else first_inside draft seed serial compartment (try + 1) left

abbrev pub mol_at : ℕ → ℕ → ℕ → Option Place → Result Mol NoPlace
mol_at line serial species None = Err (record { line = line; serial = serial })
mol_at line serial species (Some place) = Ok (record { serial = serial; species = species; place = place })

-- the molecule of this serial that a statement places
abbrev pub placed_one : Draft → ℕ → Placing → ℕ → Result Mol NoPlace
placed_one draft seed (placing.Mol n species at) serial = mol_at 0 serial species (Some (place_at_try draft seed serial 0 at))
placed_one draft seed (placing.InCompartment line n species compartment) serial =
    mol_at line serial species (first_inside draft seed serial compartment 0 most_tries)

-- molecules that are placed one after the other, or the first of them without a place
abbrev pub placed_behind : Result Mol NoPlace → Result (List Mol) NoPlace → Result (List Mol) NoPlace
placed_behind (Err fault) rest = Err fault
placed_behind (Ok mol) (Err fault) = Err fault
placed_behind (Ok mol) (Ok mols) = Ok (mol ∷ mols)

-- so many molecules that a statement places, with serials from this one on
abbrev pub placed_many : Draft → ℕ → Placing → ℕ → ℕ → Result (List Mol) NoPlace
placed_many draft seed placing serial zero = Ok []
placed_many draft seed placing serial (suc n) =
    placed_behind (placed_one draft seed placing serial) (placed_many draft seed placing (serial + 1) n)

abbrev pub placed_together : Result (List Mol) NoPlace → Result (List Mol) NoPlace → Result (List Mol) NoPlace
placed_together (Err fault) rest = Err fault
placed_together (Ok mols) (Err fault) = Err fault
placed_together (Ok mols) (Ok more) = Ok (mols ++ more)

-- what these statements place, in their order, with serials from this one on
abbrev pub placed_from : Draft → ℕ → ℕ → List Placing → Result (List Mol) NoPlace
placed_from draft seed serial [] = Ok []
placed_from draft seed serial (placing ∷ placings) =
    placed_together (placed_many draft seed placing serial (placed_by placing))
    (placed_from draft seed (serial + placed_by placing) placings)

-- the state of these molecules before the first step
abbrev pub opened : Draft → List Mol → State
opened draft mols = record { step = 0; mols = mols; next = 1 + sum_by placed_by draft.placings }

abbrev pub opened_with : Draft → Result (List Mol) NoPlace → Result State NoPlace
opened_with draft (Ok mols) = Ok (opened draft mols)
opened_with draft (Err fault) = Err fault

-- the state before the first step, or the first molecule without a place. The first molecule has the serial 1
unfoldable pub opening_state : Draft → ℕ → Result State NoPlace
opening_state draft seed = opened_with draft (placed_from draft seed 1 draft.placings)
