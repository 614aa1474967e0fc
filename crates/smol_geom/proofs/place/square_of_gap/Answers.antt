use Rattle.std.proofs.Common.{arith}
use Rattle.std.proofs.lemmas.Int.{ints}
use Rattle.smol_geom.proofs.Sizes.{square_size}
use Rattle.smol_geom.proofs.place.square_of_gap.Goals as goal

pub returns-clause-size : goal.returns-clause-size
returns-clause-size c = square_size _ (omega (arith, ints))
