-- What lines say of reactions.
use Rattle.std.specs.Prelude.{List, [], ◌∷◌}
use Rattle.smol_reactions.specs.ReactionSaid.{ReactionSaid}
use Rattle.smol_config.specs.Said.{Said, of_reactions}

-- what the lines before say of reactions, the nearest first
abbrev pub reactions_said : List Said → List ReactionSaid
reactions_said [] = []
reactions_said (of_reactions said ∷ before) = said ∷ reactions_said before
reactions_said (other ∷ before) = reactions_said before
