-- A word behind those of all reactions is none of theirs.
use Rattle.std.proofs.Common.{◌≡◌, ℕ, ◌+◌, ◌≤◌, List, [], ◌∷◌, None, refl, arith, sum_by}
use Rattle.std.proofs.lemmas.Bool.Decides.{nat_tests}
use Rattle.std.proofs.lemmas.Grind.{common_steps}
use Rattle.smol_types.specs.declared.reaction.Reaction.{Reaction}
use Rattle.smol_types.specs.Reactions.{share_of}
use Rattle.smol_meaning.specs.Events.{reaction_drawn}

pub none_drawn : (species passed number word : ℕ) (reactions : List Reaction) → passed + sum_by (share_of species) reactions ≤ word
    → reaction_drawn species passed number reactions word ≡ None
none_drawn species passed number word [] past = refl
none_drawn species passed number word (reaction ∷ reactions) past =
    grind (arith, common_steps, nat_tests, none_drawn species (passed + share_of species reaction) (number + 1) word reactions)
