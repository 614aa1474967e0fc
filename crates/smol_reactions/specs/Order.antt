-- What lines say of reactions, each behind the line that gives its reaction.
use Rattle.std.specs.Prelude.{◌<◌, List, [], ◌∷◌, length}
use Rattle.smol_reactions.specs.ReactionSaid.{ReactionSaid, reacts, binds, happens, places}
use Rattle.smol_reactions.specs.Content.{schemes_of}

-- each of these is a further reaction, or of a reaction before it
abbrev pub AreOrdered : List ReactionSaid → Type 0
AreOrdered [] = Unit {0}
AreOrdered (reacts scheme ∷ before) = AreOrdered before
AreOrdered (binds number radius ∷ before) = (number < length (schemes_of before)) × AreOrdered before
AreOrdered (happens number chance ∷ before) = (number < length (schemes_of before)) × AreOrdered before
AreOrdered (places number placement ∷ before) = (number < length (schemes_of before)) × AreOrdered before
