-- Changing one entry of a list, as its lists of bytes show it.
use Rattle.std.proofs.Common.{◌≡◌, ℕ, ◌<◌, List, [], ◌++◌, length, map, get_or, set, sym, ◌∙◌, ap}
use Rattle.std.proofs.lemmas.List.{get_or-map, map-set}

-- the entry got further bytes
pub map-set-longer : {X : Type 0} (bytes : X → List ℕ) (xs : List X) (place : ℕ) (y old : X) (more : List ℕ) → place < length xs → old ≡ get_or xs place old → bytes y ≡ bytes old ++ more → map bytes (set xs place y) ≡ set (map bytes xs) place (get_or (map bytes xs) place [] ++ more)
map-set-longer bytes xs place y old more within was is =
    map-set bytes xs place y
    ∙ ap (set (map bytes xs) place)
    (is ∙ ap (λ front. front ++ more) (ap bytes was ∙ sym (get_or-map bytes xs place old [] within)))
