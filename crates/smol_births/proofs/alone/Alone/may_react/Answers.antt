use Rattle.std.proofs.Common.{arith}
use Rattle.std.proofs.lemmas.Bool.Decides.{nat_tests}
use Rattle.std.proofs.lemmas.Grind.{common_steps}
use Rattle.smol_births.proofs.Drawn.{none_drawn}
use Rattle.smol_births.proofs.alone.Alone.may_react.Goals as goal

pub returns-clause-never : goal.returns-clause-never
returns-clause-never c none word =
    none_drawn c.args.species 0 0 word c.args.self.now.reactions (grind (arith, common_steps, nat_tests, c.chance.ensures, none))
