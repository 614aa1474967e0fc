use Rattle.std.proofs.Common.{sym, ◌∙◌, arith}
use Rattle.smol_streams.specs.Chance.{first_order_word}
use Rattle.smol_births.proofs.Drawn.{none_drawn}
use Rattle.smol_births.proofs.draws.first_order.Goals as goal

pub returns-then-chance_of-eq0-clause-reaction : goal.returns-then-chance_of-eq0-clause-reaction
returns-then-chance_of-eq0-clause-reaction c =
    let mol = c.args.m.now in
    let none = rw c.reactions-reactions.ensures.value at (sym c.chance_of.ensures ∙ c.if-chance_of-eq0.true) in
    sym (none_drawn mol.species 0 0 (first_order_word c.args.streams.now mol.serial c.args.k) c.args.config.now.reactions (omega (arith, none)))
