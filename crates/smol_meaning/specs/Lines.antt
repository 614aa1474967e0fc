-- The lines that commands print.
use Rattle.std.specs.Prelude.{ℕ, ◌+◌, ◌==◌, ℤ, pos, ◌-ℤ◌, List, [], ◌∷◌, ◌++◌, codes, count_by, flat_map, take}
use Rattle.std.specs.Fmt.{decimal, signed_decimal}
use Rattle.std.specs.Int.{int_div_euclid}
use Rattle.smol_num.specs.Print.{decimal_text}
use Rattle.smol_geom.specs.declared.place.Place.{Place}
use Rattle.smol_types.specs.declared.draft.Draft.{Draft}
use Rattle.smol_types.specs.declared.species.Species.{Species}
use Rattle.smol_types.specs.declared.state.Mol.{Mol}
use Rattle.std.specs.Prelude.{slice_get}
use Rattle.std.specs.Option.{option_map_or}

-- how many of these molecules are of a species
abbrev pub number_of : List Mol → ℕ → ℕ
number_of mols species = count_by (λ (mol : Mol). mol.species == species) mols

-- the counts of species from this number on
abbrev pub counts_from : List Mol → ℕ → List Species → List ℕ
counts_from mols number [] = []
counts_from mols number (species ∷ more) = number_of mols number ∷ counts_from mols (number + 1) more

-- numbers, each behind a space
abbrev pub spaced : List ℕ → List ℕ
spaced [] = []
spaced (n ∷ numbers) = codes " " ++ decimal n ++ spaced numbers

-- the line of `molcountheader`: a word for the time, and the species
unfoldable pub header_line : Draft → List ℕ
header_line draft = codes "time" ++ flat_map (λ (species : Species). codes " " ++ species.name) draft.species ++ codes "\n"

-- the line of `molcount`: the time, which is in nanos, and the counts
unfoldable pub count_line : ℤ → List ℕ → List ℕ
count_line time counts = decimal_text 9 time ++ spaced counts ++ codes "\n"

-- numbers with a sign, each behind a space
abbrev pub spaced_signed : List ℤ → List ℕ
spaced_signed [] = []
spaced_signed (z ∷ numbers) = codes " " ++ signed_decimal z ++ spaced_signed numbers

-- a line of numbers: the time, which is in nanos, and the numbers
unfoldable pub number_line : ℤ → List ℤ → List ℕ
number_line time numbers = decimal_text 9 time ++ spaced_signed numbers ++ codes "\n"

-- the coordinate in micros at which a molecule counts that stands half a micro above it, at x ticks
abbrev pub micros_at : ℤ → ℤ
micros_at x = int_div_euclid (x -ℤ pos 1) (pos 2)

-- coordinates, each behind a space
abbrev pub coordinates_text : List ℤ → List ℕ
coordinates_text [] = []
coordinates_text (x ∷ xs) = codes " " ++ decimal_text 6 (micros_at x) ++ coordinates_text xs

-- the coordinates of a place on the axes in use, each behind a space
abbrev pub place_text : Draft → Place → List ℕ
place_text draft place = coordinates_text (take draft.dims place.0)

-- the name of a species
abbrev pub name_of : Draft → ℕ → List ℕ
name_of draft number = option_map_or (λ (species : Species). species.name) (slice_get draft.species number) []

-- the line of `listmols` for a molecule: its species, its coordinates on the axes in use, and its serial
unfoldable pub mol_line : Draft → Mol → List ℕ
mol_line draft mol =
    name_of draft mol.species ++ codes "(solution)" ++ place_text draft mol.place ++ codes " " ++ decimal mol.serial ++ codes "\n"

-- the line of `molpos`: the time, and the coordinates of molecules
unfoldable pub positions_line : Draft → ℤ → List Mol → List ℕ
positions_line draft time mols = decimal_text 9 time ++ flat_map (λ (mol : Mol). place_text draft mol.place) mols ++ codes "\n"
