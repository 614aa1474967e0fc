-- Encounters in the order in which they come to a reaction.
use Rattle.std.specs.Prelude.{ℕ, ◌+◌, ◌*◌, Bool, true, false, List}
use Rattle.smol_geom.specs.Place.{square_of_distance}
use Rattle.smol_types.specs.declared.state.Mol.{Mol}
use Rattle.smol_pairs.specs.declared.encounter.Encounter.{Encounter}
use Rattle.smol_pairs.specs.declared.listing.Measured.{Measured}
use Rattle.smol_pairs.specs.Keys.{IsOfKey, key_of}
use Rattle.smol_pairs.specs.Seekers.{mol_at}

-- the square of the distance between the molecules at the ranks of an encounter
abbrev pub square_at : List Mol → Encounter → ℕ
square_at mols met = square_of_distance (mol_at mols met.rank_a).place (mol_at mols met.rank_b).place

-- an encounter with it
abbrev pub measured_at : List Mol → Encounter → Measured
measured_at mols met = record { square = square_at mols met; met = met }

abbrev pub met_of : Measured → Encounter
met_of measured = measured.met

-- a square and the number of an encounter in one: 50 bits for the number
abbrev pub number_at : ℕ → Encounter → ℕ
number_at square met = square * 1125899906842624 + key_of met

abbrev pub number_of : Measured → ℕ
number_of measured = number_at measured.square measured.met

-- the encounter has room in these bits
abbrev pub HasRoom : Measured → Type 0
HasRoom measured = IsOfKey measured.met

-- the number by which encounters of molecules are in order: that of the encounter, or with the square before it
abbrev pub key_in : Bool → List Mol → Encounter → ℕ
key_in false mols met = key_of met
key_in true mols met = number_at (square_at mols met) met
