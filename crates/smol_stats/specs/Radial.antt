-- Pairs of molecules by their distance.
use Rattle.std.specs.Prelude.{ℕ, ◌+◌, ◌*◌, Bool, ◌&&◌, ◌||◌, ◌==◌, [], ◌∷◌, ◌++◌, List, map, nat_le, nat_lt, slice_index_or}
use Rattle.smol_geom.specs.Place.{square_of_distance}
use Rattle.smol_types.specs.declared.state.Mol.{Mol}
use Rattle.smol_stats.specs.Tally.{tally}

-- all unordered pairs of different molecules: each with those behind it
abbrev pub pairs_of : List Mol → List (Mol × Mol)
pairs_of [] = []
pairs_of (mol ∷ mols) = map (λ (other : Mol). (mol, other)) mols ++ pairs_of mols

-- whether one of two molecules is of the first species, and the other of the second
abbrev pub is_pair_of : ℕ → ℕ → Mol → Mol → Bool
is_pair_of first second a b = (a.species == first && b.species == second) || (a.species == second && b.species == first)

-- whether a squared distance is in a shell, where what is within reach is cut into n shells of one thickness
abbrev pub is_in_shell : ℕ → ℕ → ℕ → ℕ → Bool
is_in_shell reach n shell square =
    nat_lt square (reach * reach) && (nat_le ((reach * shell) * (reach * shell)) (square * (n * n)) && nat_lt (square * (n * n)) ((reach * (shell + 1)) * (reach * (shell + 1))))

-- whether two molecules are a pair of the two species, and their distance is in a shell
abbrev pub are_in_shell : ℕ → ℕ → ℕ → ℕ → ℕ → Mol → Mol → Bool
are_in_shell first second reach n shell a b = is_pair_of first second a b && is_in_shell reach n shell (square_of_distance a.place b.place)

-- how many pairs of the two species are in each of n shells
abbrev pub radial_of : ℕ → ℕ → ℕ → ℕ → List Mol → List ℕ
radial_of first second reach n mols = tally (λ shell (pair : Mol × Mol). are_in_shell first second reach n shell pair.0 pair.1) n (pairs_of mols)

-- the molecule at an index
abbrev pub mol_at : List Mol → ℕ → Mol
mol_at mols index = slice_index_or mols index (record { serial = 0; species = 0; place = record { 0 = [] } })

-- whether the molecule at an index is behind one, and the two are in a shell
abbrev pub is_behind_in : ℕ → ℕ → ℕ → ℕ → List Mol → ℕ → ℕ → ℕ → Bool
is_behind_in first second reach n mols one shell index = nat_lt one index && are_in_shell first second reach n shell (mol_at mols one) (mol_at mols index)
