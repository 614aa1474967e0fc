-- The text that `--make` runs: a configuration with so many molecules, to try speed and workers with.
use Rattle.std.specs.Prelude.{ℕ, ◌-◌, ◌/◌, List, [], ◌∷◌, ◌++◌, codes}
use Rattle.std.specs.Fmt.{decimal}

-- three species that move, between walls that reflect
abbrev pub space_lines : List (List ℕ)
space_lines =
    codes "dim 3"
    ∷ codes "species A B C"
    ∷ codes "difstep A 0.5"
    ∷ codes "difstep B 0.5"
    ∷ codes "difstep C 0.25"
    ∷ codes "boundaries x 0 100 r"
    ∷ codes "boundaries y 0 100 r"
    ∷ codes "boundaries z 0 100 r"
    ∷ codes "max_mol 1000000"
    ∷ []

-- ten steps, and a box of six panels in the middle that let nothing through
abbrev pub box_lines : List (List ℕ)
box_lines =
    codes "time_start 0"
    ∷ codes "time_stop 10"
    ∷ codes "time_step 1"
    ∷ codes "start_surface box"
    ∷ codes "action both all reflect"
    ∷ codes "panel rect +0 40 40 40 20 20"
    ∷ codes "panel rect -0 60 40 40 20 20"
    ∷ codes "panel rect +1 40 40 40 20 20"
    ∷ codes "panel rect -1 40 60 40 20 20"
    ∷ codes "panel rect +2 40 40 40 20 20"
    ∷ codes "panel rect -2 40 40 60 20 20"
    ∷ codes "end_surface"
    ∷ []

-- A and B bind where they meet, and molecules are counted before the first step and at each fifth one
abbrev pub binding_lines : List (List ℕ)
binding_lines =
    codes "reaction bind A + B -> C"
    ∷ codes "binding_radius bind 1"
    ∷ codes "cmd b molcountheader stdout"
    ∷ codes "cmd n 5 molcount stdout"
    ∷ []

-- so many molecules of a species, each at a place that is drawn
abbrev pub mol_line : ℕ → List ℕ → List ℕ
mol_line count species = codes "mol " ++ decimal count ++ codes " " ++ species ++ codes " u u u"

-- the lines for so many molecules: their number is the seed too, half of them, rounded down, are of A, and the others of B
abbrev pub generated_lines : ℕ → List (List ℕ)
generated_lines n =
    space_lines
    ++ (codes "random_seed " ++ decimal n) ∷ box_lines
    ++ mol_line (n / 2) (codes "A") ∷ mol_line (n - n / 2) (codes "B") ∷ binding_lines

-- lines as a text, each with a line feed behind it
abbrev pub ended : List (List ℕ) → List ℕ
ended [] = []
ended (line ∷ lines) = line ++ 10 ∷ ended lines

-- the text for so many molecules
unfoldable pub generated : ℕ → List ℕ
generated n = ended (generated_lines n)
