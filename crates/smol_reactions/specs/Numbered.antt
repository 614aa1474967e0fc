-- Lists whose elements are numbered.
use Rattle.std.specs.Prelude.{ℕ, ◌+◌, zero, suc, List, [], ◌∷◌}

-- what there is for each thing of a list by its number, where the first has this number
abbrev pub numbered : {X Y : Type 0} → (ℕ → X → Y) → ℕ → List X → List Y
numbered make number [] = []
numbered make number (thing ∷ things) = make number thing ∷ numbered make (number + 1) things

-- the list with the thing of this number changed
abbrev pub changed : {X : Type 0} → (X → X) → ℕ → List X → List X
changed change number [] = []
changed change zero (thing ∷ things) = change thing ∷ things
changed change (suc number) (thing ∷ things) = thing ∷ changed change number things
