-- How likely it is that molecules react alone, as numbers of random words.
use Rattle.std.specs.Prelude.{ℕ, List, length, map, sum_by}
use Rattle.std.specs.List.{range_with_len}
use Rattle.smol_types.specs.declared.draft.Draft.{Draft}
use Rattle.smol_types.specs.declared.reaction.Reaction.{Reaction}
use Rattle.smol_types.specs.Reactions.{share_of}

-- how many of the random words make a molecule of a species react alone
abbrev pub chance_of : List Reaction → ℕ → ℕ
chance_of reactions species = sum_by (share_of species) reactions

-- the same of each species, in the order of their numbers
abbrev pub chances_of : Draft → List ℕ
chances_of draft = map (chance_of draft.reactions) (range_with_len 0 (length draft.species))
