-- The table of how many words make molecules of each species react alone.
use Rattle.std.proofs.Common.{◌≡◌, ℕ, ◌+◌, List, [], ◌∷◌, ◌++◌, map, sym, ◌∙◌, arith}
use Rattle.std.specs.List.{range_with_len}
use Rattle.std.proofs.lemmas.List.FromFn.{map-range_with_len_more}
use Rattle.smol_types.specs.declared.reaction.Reaction.{Reaction}
use Rattle.smol_births.specs.Chances.{chance_of}

-- one species more
pub chances_more : (reactions : List Reaction) (species chance : ℕ) (old new : List ℕ)
    → old ≡ map (chance_of reactions) (range_with_len 0 species) → chance ≡ chance_of reactions species → new ≡ old ++ chance ∷ []
    → new ≡ map (chance_of reactions) (range_with_len 0 (species + 1))
chances_more reactions species chance old new so_far is pushed =
    pushed ∙ (λ i. so_far i ++ is i ∷ []) ∙ sym (map-range_with_len_more (chance_of reactions) 0 species species (omega arith))
