use Rattle.std.proofs.Common.{sym, arith}
use Rattle.smol_births.proofs.Drawn.{none_drawn}
use Rattle.smol_births.proofs.alone.Alone.reaction.Goals as goal

pub returns-then-from-chance : goal.returns-then-from-chance
returns-then-from-chance c =
    sym (none_drawn c.args.species 0 0 c.args.word c.args.self.now.reactions (omega (arith, c.chance.ensures, c.if-from-chance.true)))
