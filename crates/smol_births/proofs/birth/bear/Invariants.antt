use Rattle.std.proofs.Common.{◌≡◌, ◌+◌, ◌++◌, drop}
use Rattle.smol_meaning.specs.Events.{births_in}
use Rattle.smol_births.proofs.birth.bear.Given as goal

-- what is born so far, and what the products that are left become
abbrev pub invariant-loop-index : goal.invariant-loop-index
invariant-loop-index l =
    l.births.items ++ births_in l.reaction.placement l.event (l.serial + l.index) l.index (drop l.index l.reaction.products)
    ≡ l.initial.births.items ++ births_in l.reaction.placement l.event l.serial 0 l.reaction.products
