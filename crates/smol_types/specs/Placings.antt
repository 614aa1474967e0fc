-- Statements of placed molecules that a configuration may have.
use Rattle.std.specs.Prelude.{◌≡◌, ℕ, ◌<◌, ◌≤◌, List, length}
use Rattle.smol_types.specs.declared.wall.Wall.{Wall}
use Rattle.smol_types.specs.declared.placing.Placing.{Placing}
use Rattle.smol_types.specs.declared.placing.Placing.TheVariants.{Mol, InCompartment}
use Rattle.smol_types.specs.Limits.{most_molecules}
use Rattle.smol_types.specs.Walls.{AreGiven}

-- how many molecules a statement places
abbrev pub placed_by : Placing → ℕ
placed_by (Mol n species at) = n
placed_by (InCompartment line n species compartment) = n

-- a statement places molecules of a species that there is, between the walls or in a compartment that there is
abbrev pub IsPlacing : ℕ → ℕ → List Wall → Placing → Type 0
IsPlacing species_count compartment_count walls (Mol n species at) =
    (n ≤ most_molecules) × (species < species_count) × (length at ≡ 3) × AreGiven walls at
IsPlacing species_count compartment_count walls (InCompartment line n species compartment) =
    (n ≤ most_molecules) × (species < species_count) × (compartment < compartment_count)
