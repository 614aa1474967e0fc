use Rattle.std.proofs.Common.{◌≡◌, true}
use Rattle.smol_reactions.specs.Content.{are_shared}
use Rattle.smol_reactions.proofs.reactions.Reactions.are_shared.Given as goal

abbrev pub invariant-loop-species : goal.invariant-loop-species
invariant-loop-species l = are_shared l.species l.self.list.items l.self.chances.items ≡ true
