use Rattle.std.proofs.Common.{◌≡◌, ◌+◌, ◌≤◌, drop, sum_by}
use Rattle.smol_types.specs.Limits.{certain}
use Rattle.smol_types.specs.Reactions.{share_of}
use Rattle.smol_meaning.specs.Events.{reaction_drawn}
use Rattle.smol_births.proofs.draws.reaction_drawn.Given as goal

-- the reactions that are left decide, and their words are laid behind those that are passed
abbrev pub invariant-loop-number : goal.invariant-loop-number
invariant-loop-number l = record {
  drawn : reaction_drawn l.species l.passed l.number (drop l.number l.reactions) l.word ≡ reaction_drawn l.species 0 0 l.reactions l.word;
  shares : l.passed + sum_by (share_of l.species) (drop l.number l.reactions) ≤ certain;
}
